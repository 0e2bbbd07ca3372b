-- The members of the kernels' law at merge (own).
use Rattle.std.specs.Prelude.{◌≡◌, ℕ, List, Bool, true, false, None, slice_index_or}
use Rattle.std.specs.List.{AllByRecursion}
use Rattle.tuple_values.specs.Document.{Doc}
use Rattle.sort_spec.specs.Sorting.{ins_sort}
use Rattle.sort_spec.specs.Terms.{less}
use Rattle.kernel_laws.specs.Rests.{Rests}
use Rattle.order_kernels.specs.Slots.{held, flags, joined, AreFlows}
use Rattle.order_kernels.specs.declared.merge_state.MergeKernel.{MergeKernel}

-- for each input whether it has ended
abbrev pub ended : MergeKernel → List Bool
ended k = flags k.slots.items

-- it holds no tuple of the input
abbrev pub waits : MergeKernel → ℕ → Type 0
waits k i = slice_index_or (held k.slots.items) i None ≡ None

-- each input is in order
abbrev pub ready : MergeKernel → Rests → Type 0
ready k rests = AreFlows (less k.on) (held k.slots.items) (flags k.slots.items) rests

-- what all inputs still give, in order
abbrev pub out : MergeKernel → Rests → List Doc
out k rests = ins_sort (less k.on) (joined (held k.slots.items) rests)

-- nothing is held, and each input has ended
abbrev pub over : MergeKernel → Type 0
over k =
    AllByRecursion (λ h. h ≡ None) (held k.slots.items)
    × AllByRecursion (λ e. e ≡ true) (flags k.slots.items)

-- it takes no memory once it is made
abbrev pub failed : MergeKernel → Bool
failed k = false
