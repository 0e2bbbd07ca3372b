-- The members of the kernels' law at the kernels that work on groups (own).
use Rattle.std.specs.Prelude.{◌≡◌, ℕ, List, [], ◌++◌, map, Bool, true, None}
use Rattle.std.specs.Prelude.{option_to_list}
use Rattle.tuple_values.specs.Document.{Doc}
use Rattle.kernel_laws.specs.Rests.{Rests, rest_at, IsOne}
use Rattle.kernel_laws.specs.OneInput.{flags_of, IsDone}
use Rattle.expr_types.specs.Groups.{same_key}
use Rattle.group_kernels.specs.Runs.{spans}
use Rattle.group_kernels.specs.Work.{worked}
use Rattle.group_kernels.specs.declared.group.GroupKernel.{GroupKernel}

-- whether its input has ended
abbrev pub ended : GroupKernel → List Bool
ended k = flags_of k.input

-- it holds no tuple
abbrev pub waits : GroupKernel → ℕ → Type 0
waits k i = (i ≡ 0) × (k.held ≡ None)

-- one input, and no run goes on where it has ended; its order doesn't matter for what a step does
abbrev pub ready : GroupKernel → Rests → Type 0
ready k rests = IsOne k.input.ended rests × (k.input.ended ≡ true → k.run.items ≡ [])

-- the tuple that is held, and then what is made of each run, where one may go on
abbrev pub out : GroupKernel → Rests → List Doc
out k rests =
    option_to_list k.held
    ++ map (worked k.names k.work) (spans (same_key k.names) k.run.items (rest_at 0 rests))

-- nothing is held, and the input has ended
abbrev pub over : GroupKernel → Type 0
over k = (k.held ≡ None) × IsDone k.input

-- memory was wanting
abbrev pub failed : GroupKernel → Bool
failed k = k.input.failed
