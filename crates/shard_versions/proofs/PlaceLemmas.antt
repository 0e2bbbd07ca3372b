-- The last place in a list of what passes a test.
use Rattle.std.proofs.Common.{◌≡◌, ℕ, zero, suc, ◌+◌, ◌<◌, ◌≤◌, Bool, true, false, cond, List, [], ◌∷◌, ◌++◌, length, get_or, take, map, refl, sym, ap, ◌∙◌, arith, add-one}
use Rattle.std.proofs.lemmas.List.{take_more}
use Rattle.shard_versions.specs.Places.{placed, last_where}

-- with one more item, the last place is the new one where it passes
pub last_where-push : {X : Type 0} (p : X → Bool) (xs : List X) (x : X)
    → last_where p (xs ++ x ∷ []) ≡ cond (p x) (length xs + 1) (last_where p xs)
unfolding last_where
last_where-push p [] x = go (p x)
  where
    go : (b : Bool) → placed 0 b ≡ cond b (0 + 1) 0
    go true = refl
    go false = refl
last_where-push p (y ∷ xs) x = go (p x) (last_where-push p xs x)
  where
    go : (b : Bool) → last_where p (xs ++ x ∷ []) ≡ cond b (length xs + 1) (last_where p xs)
        → placed (last_where p (xs ++ x ∷ [])) (p y) ≡ cond b (suc (length xs) + 1) (placed (last_where p xs) (p y))
    go true e = ap (λ n. placed n (p y)) (e ∙ add-one (length xs)) ∙ sym (add-one (suc (length xs)))
    go false e = ap (λ n. placed n (p y)) e

-- the last place is in the list
pub last_where-bound : {X : Type 0} (p : X → Bool) (xs : List X) → last_where p xs ≤ length xs
unfolding last_where
last_where-bound p [] = omega arith
last_where-bound p (x ∷ xs) = go (last_where p xs) (last_where-bound p xs) (p x)
  where
    go : (n : ℕ) → n ≤ length xs → (b : Bool) → placed n b ≤ suc (length xs)
    go zero h true = omega arith
    go zero h false = omega arith
    go (suc n) h b = omega arith

-- the item there passes
pub last_where-found : {X : Type 0} (p : X → Bool) (xs : List X) (k : ℕ) (d : X)
    → last_where p xs ≡ suc k → p (get_or xs k d) ≡ true
unfolding last_where
last_where-found p [] k d e = absurd (omega arith)
last_where-found p (x ∷ xs) k d e = go (last_where p xs) (p x) refl k e (λ j. last_where-found p xs j d)
  where
    go : (n : ℕ) (b : Bool) → p x ≡ b → (k : ℕ) → placed n b ≡ suc k
        → ((j : ℕ) → n ≡ suc j → p (get_or xs j d) ≡ true) → p (get_or (x ∷ xs) k d) ≡ true
    go zero true is zero e f = is
    go zero true is (suc k) e f = absurd (omega arith)
    go zero false is k e f = absurd (omega arith)
    go (suc n) b is zero e f = absurd (omega arith)
    go (suc n) b is (suc k) e f = f k (omega arith)

-- what passes a narrower test stands up to the last place of a wider one
pub last_where-within : {X : Type 0} (p q : X → Bool) → ((x : X) → p x ≡ true → q x ≡ true)
    → (xs : List X) → last_where p xs ≡ last_where p (take (last_where q xs) xs)
unfolding last_where
last_where-within p q f [] = refl
last_where-within p q f (x ∷ xs) = go (last_where q xs) (q x) refl (last_where-within p q f xs)
  where
    go : (n : ℕ) (b : Bool) → q x ≡ b → last_where p xs ≡ last_where p (take n xs)
        → placed (last_where p xs) (p x) ≡ last_where p (take (placed n b) (x ∷ xs))
    go zero true is e = ap (λ m. placed m (p x)) e
    go zero false is e = ap (λ m. placed m (p x)) e ∙ out (p x) refl
      where
        out : (c : Bool) → p x ≡ c → placed 0 c ≡ 0
        out true h = absurd (let g = f x h in cc)
        out false h = refl
    go (suc n) b is e = ap (λ m. placed m (p x)) e

-- the last place among the first so many and one more
pub last_where-take : {X : Type 0} (p : X → Bool) (xs : List X) (k : ℕ) (d : X) → k < length xs
    → p (get_or xs k d) ≡ false → last_where p (take (suc k) xs) ≡ last_where p (take k xs)
last_where-take p xs k d lt fails =
    ap (λ n. last_where p (take n xs)) (sym (add-one k))
    ∙ (ap (last_where p) (take_more xs k d lt)
    ∙ (last_where-push p (take k xs) (get_or xs k d)
    ∙ ap (λ b. cond b (length (take k xs) + 1) (last_where p (take k xs))) fails))

-- and where the one more passes
pub last_where-here : {X : Type 0} (p : X → Bool) (xs : List X) (k : ℕ) (d : X) → k < length xs
    → p (get_or xs k d) ≡ true → last_where p (take (suc k) xs) ≡ length (take k xs) + 1
last_where-here p xs k d lt passes =
    ap (λ n. last_where p (take n xs)) (sym (add-one k))
    ∙ (ap (last_where p) (take_more xs k d lt)
    ∙ (last_where-push p (take k xs) (get_or xs k d)
    ∙ ap (λ b. cond b (length (take k xs) + 1) (last_where p (take k xs))) passes))

-- the last place of a test on images
pub last_where-map : {X Y : Type 0} (f : X → Y) (p : Y → Bool) (xs : List X)
    → last_where p (map f xs) ≡ last_where (λ x. p (f x)) xs
unfolding last_where
last_where-map f p [] = refl
last_where-map f p (x ∷ xs) = ap (λ n. placed n (p (f x))) (last_where-map f p xs)

-- the first of the first
pub take-take : {X : Type 0} (n k : ℕ) (xs : List X) → n ≤ k → take n (take k xs) ≡ take n xs
take-take zero k xs le = refl
take-take (suc n) zero xs le = absurd (omega arith)
take-take (suc n) (suc k) [] le = refl
take-take (suc n) (suc k) (x ∷ xs) le = ap (λ ys. x ∷ ys) (take-take n k xs (omega arith))
