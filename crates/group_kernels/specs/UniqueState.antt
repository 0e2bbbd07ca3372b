-- The members of the kernels' law at unique (own).
use Rattle.std.specs.Prelude.{◌≡◌, ℕ, List, [], ◌∷◌, ◌++◌, Bool, true, false, None}
use Rattle.std.specs.Prelude.{option_to_list}
use Rattle.tuple_values.specs.Document.{Doc}
use Rattle.kernel_laws.specs.Rests.{Rests, rest_at, IsOne}
use Rattle.expr_types.specs.Groups.{same_key}
use Rattle.group_kernels.specs.Runs.{heads}
use Rattle.group_kernels.specs.declared.unique.UniqueKernel.{UniqueKernel}

-- whether its input has ended
abbrev pub ended : UniqueKernel → List Bool
ended k = k.ended ∷ []

-- it holds no tuple
abbrev pub waits : UniqueKernel → ℕ → Type 0
waits k i = (i ≡ 0) × (k.held ≡ None)

-- one input; its order doesn't matter for what a step does
abbrev pub ready : UniqueKernel → Rests → Type 0
ready k rests = IsOne k.ended rests

-- the tuple that is held, and then the first of each run, where one may go on
abbrev pub out : UniqueKernel → Rests → List Doc
out k rests = option_to_list k.held ++ heads (same_key k.over) k.first (rest_at 0 rests)

-- no tuple is kept, and the input has ended
abbrev pub over : UniqueKernel → Type 0
over k = (k.held ≡ None) × (k.first ≡ None) × (k.ended ≡ true)

-- it takes no memory once it is made
abbrev pub failed : UniqueKernel → Bool
failed k = false
