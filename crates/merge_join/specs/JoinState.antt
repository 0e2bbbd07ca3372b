-- The members of the kernels' law at the inner and the outer join (own).
use Rattle.std.specs.Prelude.{◌≡◌, ℕ, List, [], ◌∷◌, ◌++◌, Bool, true, false, None, IsSome, length}
use Rattle.tuple_values.specs.Document.{Doc}
use Rattle.kernel_laws.specs.Rests.{Rests, rest_at}
use Rattle.merge_join.specs.Runs.{pairs_from, IsMidway}
use Rattle.merge_join.specs.Sides.{flow, IsOver}
use Rattle.merge_join.specs.declared.join.JoinKernel.{JoinKernel}

-- for each input whether it has ended
abbrev pub ended : JoinKernel → List Bool
ended k = k.left.ended ∷ k.right.ended ∷ []

-- a left tuple is awaited where none is held, a right one where a left one alone is held, besides
-- the right ones of the run
abbrev pub waits : JoinKernel → ℕ → Type 0
waits k i =
    (i ≡ 0 → k.left.held ≡ None) × (i ≡ 1 → (k.right.held ≡ None) × IsSome k.left.held)

-- two inputs, with nothing to come of one that has ended, and what is held fits them
pub record IsReady (k : JoinKernel) (rests : Rests) : Type 0 where
  pub two : length rests ≡ 2
  pub left_over : IsOver k.left.ended (rest_at 0 rests)
  pub right_over : IsOver k.right.ended (rest_at 1 rests)
  pub midway : IsMidway k.terms k.left.held k.place k.run.items (rest_at 0 rests)
      (flow k.right.held (rest_at 1 rests))

-- each input is in order
abbrev pub ready : JoinKernel → Rests → Type 0
ready k rests = IsReady k rests

-- the pairs of the left documents to come with the run and the right ones to come, without those
-- of the left one that were given
abbrev pub out : JoinKernel → Rests → List Doc
out k rests =
    pairs_from k.outer k.terms k.place (flow k.left.held (rest_at 0 rests))
    (k.run.items ++ flow k.right.held (rest_at 1 rests))

-- no left tuple is held, none is to come, and memory wasn't wanting
abbrev pub over : JoinKernel → Type 0
over k = (k.left.held ≡ None) × (k.left.ended ≡ true) × (k.failed ≡ false)

-- memory was wanting
abbrev pub failed : JoinKernel → Bool
failed k = k.failed
