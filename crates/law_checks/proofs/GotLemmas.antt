-- What is got of a list.
use Rattle.std.proofs.Common.{◌≡◌, ℕ, zero, suc, ◌<◌, ◌≤◌, List, [], ◌∷◌, length, get_or, Some, None, refl, ap, arith}
use Rattle.std.specs.List.{slice_get}

-- the item at a place is got
pub got-at : {X : Type 0} (xs : List X) (n : ℕ) (x : X) → n < length xs → x ≡ get_or xs n x → Some x ≡ slice_get xs n
got-at [] n x lt e = absurd (omega arith)
got-at (y ∷ xs) zero x lt e = ap Some e
got-at (y ∷ xs) (suc n) x lt e = got-at xs n x (omega arith) e

-- past the end none is
pub got-past : {X : Type 0} (xs : List X) (n : ℕ) → length xs ≤ n → None ≡ slice_get xs n
got-past [] n le = refl
got-past (y ∷ xs) zero le = absurd (omega arith)
got-past (y ∷ xs) (suc n) le = got-past xs n (omega arith)
