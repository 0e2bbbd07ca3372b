-- The members of the kernels' law at having (own).
use Rattle.std.specs.Prelude.{◌≡◌, ℕ, List, ◌++◌, Bool, None, option_to_list}
use Rattle.tuple_values.specs.Document.{Doc}
use Rattle.kernel_laws.specs.Rests.{Rests, rest_at, IsOne}
use Rattle.kernel_laws.specs.OneInput.{flags_of, IsDone}
use Rattle.expr_types.specs.ConditionViews.{condition_tree}
use Rattle.expr_types.specs.Conditions.{having_list}
use Rattle.row_kernels.specs.declared.having.HavingKernel.{HavingKernel}

-- whether its input has ended
abbrev pub ended : HavingKernel → List Bool
ended k = flags_of k.input

-- it holds no tuple
abbrev pub waits : HavingKernel → ℕ → Type 0
waits k i = (i ≡ 0) × (k.held ≡ None)

-- it asks for no order
abbrev pub ready : HavingKernel → Rests → Type 0
ready k rests = IsOne k.input.ended rests

-- the tuple that is held, and those to come that meet the condition
abbrev pub out : HavingKernel → Rests → List Doc
out k rests =
    option_to_list k.held ++ having_list (condition_tree k.condition) (rest_at 0 rests)

-- nothing is held, and the input has ended
abbrev pub over : HavingKernel → Type 0
over k = (k.held ≡ None) × IsDone k.input

-- memory was wanting
abbrev pub failed : HavingKernel → Bool
failed k = k.input.failed
