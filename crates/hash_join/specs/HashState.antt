-- The members of the kernels' law at the hash joins (own).
use Rattle.std.specs.Prelude.{◌≡◌, ℕ, List, [], ◌∷◌, ◌++◌, Bool, true, length}
use Rattle.tuple_values.specs.Document.{Doc}
use Rattle.kernel_laws.specs.OneInput.{IsDone}
use Rattle.kernel_laws.specs.Rests.{Rests, rest_at}
use Rattle.hash_join.specs.Held.{given_by, held_list}
use Rattle.hash_join.specs.declared.held.Held.TheVariants.{Nothing}
use Rattle.hash_join.specs.declared.join.HashJoinKernel.{HashJoinKernel}

-- for each input whether it has ended
abbrev pub ended : HashJoinKernel → List Bool
ended k = k.left.ended ∷ k.whole ∷ []

-- nothing is held, and a left tuple comes only after all right ones
abbrev pub waits : HashJoinKernel → ℕ → Type 0
waits k i = (k.held ≡ Nothing) × (i ≡ 0 → k.whole ≡ true)

-- two inputs, with nothing to come of one that has ended
pub record IsReady (k : HashJoinKernel) (rests : Rests) : Type 0 where
  pub two : length rests ≡ 2
  pub left_over : k.left.ended ≡ true → rest_at 0 rests ≡ []
  pub right_over : k.whole ≡ true → rest_at 1 rests ≡ []

-- the inputs may be in any order
abbrev pub ready : HashJoinKernel → Rests → Type 0
ready k rests = IsReady k rests

-- what is held, and then what the left documents to come give
abbrev pub out : HashJoinKernel → Rests → List Doc
out k rests =
    held_list k.on k.table k.held
    ++ given_by k.outer k.on k.table (rest_at 1 rests) (rest_at 0 rests)

-- nothing is held, none is to come, and memory wasn't wanting
abbrev pub over : HashJoinKernel → Type 0
over k = (k.held ≡ Nothing) × (k.whole ≡ true) × IsDone k.left

-- memory was wanting
abbrev pub failed : HashJoinKernel → Bool
failed k = k.left.failed
