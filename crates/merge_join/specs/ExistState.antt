-- The members of the kernels' law at intersect and complement (own).
use Rattle.std.specs.Prelude.{◌≡◌, ℕ, List, [], ◌∷◌, Bool, true, false, None, IsSome, length}
use Rattle.tuple_values.specs.Document.{Doc}
use Rattle.sort_spec.specs.Sorting.{IsAscending}
use Rattle.sort_spec.specs.Terms.{less}
use Rattle.kernel_laws.specs.Rests.{Rests, rest_at}
use Rattle.expr_types.specs.Joins.{existing}
use Rattle.merge_join.specs.Keys.{left_order, right_order, meets}
use Rattle.merge_join.specs.Sides.{flow, IsOver}
use Rattle.merge_join.specs.declared.exist.ExistKernel.{ExistKernel}

-- for each input whether it has ended
abbrev pub ended : ExistKernel → List Bool
ended k = k.left.ended ∷ k.right.ended ∷ []

-- a left tuple is awaited where none is held, a right one where a left one alone is held
abbrev pub waits : ExistKernel → ℕ → Type 0
waits k i =
    (i ≡ 0 → k.left.held ≡ None) × (i ≡ 1 → (k.right.held ≡ None) × IsSome k.left.held)

-- two inputs, each in the order of its fields, and nothing to come of one that has ended
pub record IsReady (k : ExistKernel) (rests : Rests) : Type 0 where
  pub two : length rests ≡ 2
  pub left_over : IsOver k.left.ended (rest_at 0 rests)
  pub right_over : IsOver k.right.ended (rest_at 1 rests)
  pub lefts : IsAscending (less (left_order k.terms)) (flow k.left.held (rest_at 0 rests))
  pub rights : IsAscending (less (right_order k.terms)) (flow k.right.held (rest_at 1 rests))

-- each input is in order
abbrev pub ready : ExistKernel → Rests → Type 0
ready k rests = IsReady k rests

-- of the left documents to come those that have a match among the right ones to come, or not
abbrev pub out : ExistKernel → Rests → List Doc
out k rests =
    existing k.keep (meets k.terms) (flow k.left.held (rest_at 0 rests))
    (flow k.right.held (rest_at 1 rests))

-- no left tuple is held, and none is to come
abbrev pub over : ExistKernel → Type 0
over k = (k.left.held ≡ None) × (k.left.ended ≡ true)

-- it takes no memory once it is made
abbrev pub failed : ExistKernel → Bool
failed k = false
