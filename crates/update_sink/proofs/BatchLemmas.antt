-- Batches of a list, one by one.
use Rattle.std.proofs.Common.{◌≡◌, ℕ, zero, suc, ◌<◌, ◌≤◌, List, [], ◌∷◌, length, take, drop, refl, ap, arith, length-drop}
use Rattle.exchange_rules.specs.Batches.{batches_up_to, batches_of}

-- where there may be enough batches, how many there may be doesn't matter
batches_enough : {X : Type 0} (m n size : ℕ) (xs : List X) → 0 < size → length xs ≤ m
    → length xs ≤ n → batches_up_to m size xs ≡ batches_up_to n size xs
batches_enough zero zero size xs pos a b = refl
batches_enough zero (suc n) size [] pos a b = refl
batches_enough zero (suc n) size (x ∷ xs) pos a b = absurd (omega arith)
batches_enough (suc m) zero size [] pos a b = refl
batches_enough (suc m) zero size (x ∷ xs) pos a b = absurd (omega arith)
batches_enough (suc m) (suc n) size [] pos a b = refl
batches_enough (suc m) (suc n) size (x ∷ xs) pos a b =
    let left = length-drop size (x ∷ xs) in
    ap (λ others. take size (x ∷ xs) ∷ others)
    (batches_enough m n size (drop size (x ∷ xs)) pos (omega arith) (omega arith))

-- the first batch of a list, and the batches of what is behind it
pub batches_of-next : {X : Type 0} (size : ℕ) (xs : List X) → 0 < size → 0 < length xs
    → batches_of size xs ≡ take size xs ∷ batches_of size (drop size xs)
batches_of-next size [] pos filled = absurd (omega arith)
batches_of-next size (x ∷ xs) pos filled =
    let left = length-drop size (x ∷ xs) in
    ap (λ others. take size (x ∷ xs) ∷ others)
    (batches_enough (length xs) (length (drop size (x ∷ xs))) size (drop size (x ∷ xs)) pos
    (omega arith) (omega arith))
