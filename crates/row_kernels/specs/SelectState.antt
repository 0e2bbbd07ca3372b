-- The members of the kernels' law at select (own).
use Rattle.std.specs.Prelude.{◌≡◌, ℕ, List, ◌++◌, Bool, None, option_to_list}
use Rattle.tuple_values.specs.Document.{Doc}
use Rattle.kernel_laws.specs.Rests.{Rests, rest_at, IsOne}
use Rattle.kernel_laws.specs.OneInput.{flags_of, IsDone}
use Rattle.expr_types.specs.Rows.{select_list}
use Rattle.row_kernels.specs.declared.select.SelectKernel.{SelectKernel}

-- whether its input has ended
abbrev pub ended : SelectKernel → List Bool
ended k = flags_of k.input

-- it holds no tuple
abbrev pub waits : SelectKernel → ℕ → Type 0
waits k i = (i ≡ 0) × (k.held ≡ None)

-- it asks for no order
abbrev pub ready : SelectKernel → Rests → Type 0
ready k rests = IsOne k.input.ended rests

-- the tuple that is held, and what is made of those to come
abbrev pub out : SelectKernel → Rests → List Doc
out k rests = option_to_list k.held ++ select_list k.items (rest_at 0 rests)

-- nothing is held, and the input has ended
abbrev pub over : SelectKernel → Type 0
over k = (k.held ≡ None) × IsDone k.input

-- memory was wanting
abbrev pub failed : SelectKernel → Bool
failed k = k.input.failed
