-- A test keeps the pairs of the elements that it keeps.
use Rattle.std.proofs.Common.{◌≡◌, List, [], ◌∷◌, ◌++◌, Bool, true, false, ◌||◌, filter, map, cond}
use Rattle.std.proofs.Common.{if◌then◌else◌, refl, ◌∙◌, ap}
use Rattle.std.specs.List.{AllByRecursion, list_any}
use Rattle.std.proofs.lemmas.List.Elements.{filter-append}
use Rattle.sort_spec.proofs.SortLemmas.{each_weaker}
use Rattle.sort_spec.proofs.StableLemmas.{filter_none, filter_first}
use Rattle.expr_types.specs.Joins.{or_these, pairs, existing, is_kept}
use Rattle.expr_types.proofs.GroupLemmas.{filter-swap, filter-past}

-- where each element passes all are kept
pub filter_all : {X : Type 0} (p : X → Bool) (xs : List X) → AllByRecursion (λ x. p x ≡ true) xs
    → filter p xs ≡ xs
filter_all p [] a = refl
filter_all p (x ∷ xs) a =
    filter_first p x xs a.0 ∙ ap (λ w. x ∷ w) (filter_all p xs a.1)

-- what is made of the elements that a test keeps has a fact that passing gives
each_made : {X Y : Type 0} (P : X → Type 0) (Q : Y → Type 0) (p : X → Bool) (made : X → Y)
    → ((x : X) → P x → p x ≡ true → Q (made x)) → (xs : List X) → AllByRecursion P xs
    → AllByRecursion Q (map made (filter p xs))
each_made P Q p made makes [] a = tt
each_made P Q p made makes (x ∷ xs) a = go (p x) refl (each_made P Q p made makes xs a.1) where
  go : (b : Bool) → p x ≡ b → AllByRecursion Q (map made (filter p xs))
      → AllByRecursion Q (map made (cond b (x ∷ filter p xs) (filter p xs)))
  go true e later = (makes x a.0 e, later)
  go false e later = later

-- so has each of these, or of others where there is none
each_or_these : {X : Type 0} (P : X → Type 0) (others xs : List X) → AllByRecursion P others
    → AllByRecursion P xs → AllByRecursion P (or_these others xs)
each_or_these P others [] a b = a
each_or_these P others (x ∷ xs) a b = b

module _ {L R T : Type 0} (alone : L → List T) (match : L → R → Bool) (both : L → R → T)
    (p : L → Bool) (q : R → Bool) (r : T → Bool) (Fits : R → Type 0)
    (matched : (l : L) (x : R) → match l x ≡ true → p l ≡ q x)
    (paired : (l : L) (x : R) → Fits x → match l x ≡ true → r (both l x) ≡ p l)
    (by_itself : (l : L) → AllByRecursion (λ t. r t ≡ p l) (alone l)) where
  -- what a left element gives
  given_by : L → List R → List T
  given_by l rights = or_these (alone l) (map (both l) (filter (match l) rights))

  -- each of it passes where the left element does
  each_as_left : (l : L) (rights : List R) → AllByRecursion Fits rights
      → AllByRecursion (λ t. r t ≡ p l) (given_by l rights)
  unfolding given_by
  each_as_left l rights fits =
      each_or_these (λ t. r t ≡ p l) (alone l) (map (both l) (filter (match l) rights)) (by_itself l)
      (each_made Fits (λ t. r t ≡ p l) (match l) (both l) (λ x f m. paired l x f m) rights fits)

  -- a right element that fails isn't matched by a left one that passes
  unmatched : (l : L) (x : R) (b : Bool) → match l x ≡ b → p l ≡ true → q x ≡ false
      → match l x ≡ false
  unmatched l x true e t f = let m = matched l x e in absurd (cc)
  unmatched l x false e t f = e

  -- of what one more left element gives, by whether it passes
  pairs_by : (l : L) (lefts : List L) (rights : List R) (b : Bool) → p l ≡ b
      → AllByRecursion Fits rights
      → filter r (pairs alone match both lefts rights)
      ≡ pairs alone match both (filter p lefts) (filter q rights)
      → filter r (given_by l rights ++ pairs alone match both lefts rights)
      ≡ pairs alone match both (if b then l ∷ filter p lefts else filter p lefts) (filter q rights)
  unfolding given_by
  pairs_by l lefts rights true e fits later =
      filter-append r (given_by l rights) (pairs alone match both lefts rights)
      ∙ ap (λ w. filter r (given_by l rights) ++ w) later
      ∙ ap (λ w. w ++ pairs alone match both (filter p lefts) (filter q rights))
      (filter_all r (given_by l rights)
      (each_weaker (λ t. r t ≡ p l) (λ t. r t ≡ true) (given_by l rights) (λ t h. h ∙ e)
      (each_as_left l rights fits))
      ∙ ap (λ w. or_these (alone l) (map (both l) w))
      (filter-past (match l) q (λ z f. unmatched l z (match l z) refl e f) rights))
  pairs_by l lefts rights false e fits later =
      filter-append r (given_by l rights) (pairs alone match both lefts rights)
      ∙ ap (λ w. w ++ filter r (pairs alone match both lefts rights))
      (filter_none r (given_by l rights)
      (each_weaker (λ t. r t ≡ p l) (λ t. r t ≡ false) (given_by l rights) (λ t h. h ∙ e)
      (each_as_left l rights fits)))
      ∙ later

  -- of all pairs
  pub filter-pairs : (lefts : List L) (rights : List R) → AllByRecursion Fits rights
      → filter r (pairs alone match both lefts rights)
      ≡ pairs alone match both (filter p lefts) (filter q rights)
  unfolding given_by
  filter-pairs [] rights fits = refl
  filter-pairs (l ∷ lefts) rights fits =
      pairs_by l lefts rights (p l) refl fits (filter-pairs lefts rights fits)

-- tests that agree on what a third keeps keep the same of it
filter_agreeing : {X : Type 0} (f g p : X → Bool) → ((x : X) → p x ≡ true → f x ≡ g x)
    → (xs : List X) → filter f (filter p xs) ≡ filter g (filter p xs)
filter_agreeing f g p same [] = refl
filter_agreeing f g p same (x ∷ xs) =
    go (p x) refl (filter_agreeing f g p same xs)
  where
    go : (b : Bool) → p x ≡ b → filter f (filter p xs) ≡ filter g (filter p xs)
        → filter f (cond b (x ∷ filter p xs) (filter p xs))
        ≡ filter g (cond b (x ∷ filter p xs) (filter p xs))
    go true e later =
        ap (λ w. if w then x ∷ filter f (filter p xs) else filter f (filter p xs)) (same x e)
        ∙ ap (λ w. if g x then x ∷ w else w) later
    go false e later = later

-- something passes where something passes of what is kept, if what is dropped fails
any_past : {X : Type 0} (f q : X → Bool) → ((z : X) → q z ≡ false → f z ≡ false)
    → (xs : List X) → list_any f xs ≡ list_any f (filter q xs)
any_past f q h [] = refl
any_past f q h (x ∷ xs) = go (q x) refl (any_past f q h xs) where
  go : (b : Bool) → q x ≡ b → list_any f xs ≡ list_any f (filter q xs)
      → (f x || list_any f xs) ≡ list_any f (cond b (x ∷ filter q xs) (filter q xs))
  go true e later = ap (λ w. f x || w) later
  go false e later = ap (λ w. w || list_any f xs) (h x e) ∙ later

module _ {L R : Type 0} (keep : Bool) (match : L → R → Bool) (p : L → Bool) (q : R → Bool)
    (matched : (l : L) (x : R) → match l x ≡ true → p l ≡ q x) where
  -- a right element that fails isn't matched by a left one that passes
  no_match : (l : L) (x : R) (b : Bool) → match l x ≡ b → p l ≡ true → q x ≡ false
      → match l x ≡ false
  no_match l x true e t f = let m = matched l x e in absurd (cc)
  no_match l x false e t f = e

  -- of the left elements that have a match, or that have none
  pub filter-existing : (lefts : List L) (rights : List R)
      → filter p (existing keep match lefts rights)
      ≡ existing keep match (filter p lefts) (filter q rights)
  filter-existing lefts rights =
      filter-swap p (λ l. is_kept keep (list_any (match l) rights)) lefts
      ∙ filter_agreeing (λ l. is_kept keep (list_any (match l) rights))
      (λ l. is_kept keep (list_any (match l) (filter q rights))) p
      (λ l t. ap (is_kept keep)
      (any_past (match l) q (λ z f. no_match l z (match l z) refl t f) rights)) lefts
