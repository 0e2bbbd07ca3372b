-- The members of the kernels' law at top (own).
use Rattle.std.specs.Prelude.{◌≡◌, ℕ, List, [], ◌++◌, reverse, Bool}
use Rattle.std.specs.Prelude.{if◌then◌else◌}
use Rattle.tuple_values.specs.Document.{Doc}
use Rattle.kernel_laws.specs.Rests.{Rests, rest_at, IsOne}
use Rattle.kernel_laws.specs.OneInput.{flags_of, IsDone}
use Rattle.expr_types.specs.Orders.{top_list}
use Rattle.order_kernels.specs.declared.top_state.TopKernel.{TopKernel}

-- whether its input has ended
abbrev pub ended : TopKernel → List Bool
ended k = flags_of k.input

-- it always takes a tuple
abbrev pub waits : TopKernel → ℕ → Type 0
waits k i = i ≡ 0

-- it asks for no order
abbrev pub ready : TopKernel → Rests → Type 0
ready k rests = IsOne k.input.ended rests

-- the first of what was taken and is to come; once they are known, what is left of them
abbrev pub out : TopKernel → Rests → List Doc
out k rests =
    if k.input.ended then reverse k.taken.items
    else top_list k.n k.sort (k.taken.items ++ rest_at 0 rests)

-- all is given
abbrev pub over : TopKernel → Type 0
over k = (k.taken.items ≡ []) × IsDone k.input

-- memory was wanting
abbrev pub failed : TopKernel → Bool
failed k = k.input.failed
