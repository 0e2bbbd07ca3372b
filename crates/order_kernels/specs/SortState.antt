-- The members of the kernels' law at sort (own).
use Rattle.std.specs.Prelude.{◌≡◌, ℕ, List, [], ◌++◌, reverse, Bool}
use Rattle.std.specs.Prelude.{if◌then◌else◌}
use Rattle.tuple_values.specs.Document.{Doc}
use Rattle.kernel_laws.specs.Rests.{Rests, rest_at, IsOne}
use Rattle.kernel_laws.specs.OneInput.{flags_of, IsDone}
use Rattle.expr_types.specs.Orders.{sort_list}
use Rattle.order_kernels.specs.declared.sort.SortKernel.{SortKernel}

-- whether its input has ended
abbrev pub ended : SortKernel → List Bool
ended k = flags_of k.input

-- it always takes a tuple
abbrev pub waits : SortKernel → ℕ → Type 0
waits k i = i ≡ 0

-- it asks for no order
abbrev pub ready : SortKernel → Rests → Type 0
ready k rests = IsOne k.input.ended rests

-- what was taken and is to come, in order; once that is done, what is left of it
abbrev pub out : SortKernel → Rests → List Doc
out k rests =
    if k.input.ended then reverse k.taken.items
    else sort_list k.by (k.taken.items ++ rest_at 0 rests)

-- all is given
abbrev pub over : SortKernel → Type 0
over k = (k.taken.items ≡ []) × IsDone k.input

-- memory was wanting
abbrev pub failed : SortKernel → Bool
failed k = k.input.failed
