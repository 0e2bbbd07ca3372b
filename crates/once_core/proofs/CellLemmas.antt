-- The history of a cell.
use Rattle.std.proofs.Common.{◌≡◌, ℕ, zero, suc, List, [], ◌∷◌, Some, None, get_or, refl}
use Rattle.std.specs.List.{slice_get}

-- where none is got there is none
pub got_none : {X : Type 0} (xs : List X) (k : ℕ) (d : X) → None ≡ slice_get xs k → get_or xs k d ≡ d
got_none [] k d e = refl
got_none (y ∷ xs) zero d e = absurd (cc)
got_none (y ∷ xs) (suc k) d e = got_none xs k d e

-- what is got is there
pub got_some : {X : Type 0} (xs : List X) (k : ℕ) (x d : X) → Some x ≡ slice_get xs k → get_or xs k d ≡ x
got_some [] k x d e = absurd (cc)
got_some (y ∷ xs) zero x d e = cc
got_some (y ∷ xs) (suc k) x d e = got_some xs k x d e
