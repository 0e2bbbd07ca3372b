-- What comes first in a sort is found with what comes first in a part of it.
use Rattle.std.proofs.Common.{◌≡◌, ℕ, zero, suc, List, [], ◌∷◌, ◌++◌, take, Bool, true, false}
use Rattle.std.proofs.Common.{if◌then◌else◌, refl, sym, ◌∙◌, ap, arith}
use Rattle.std.specs.Cmp.{IsStrictWeakOrder}
use Rattle.std.specs.List.{AllByRecursion}
use Rattle.std.proofs.lemmas.List.{append-nil, take-take}
use Rattle.sort_spec.specs.Sorting.{insert, ins_from, ins_sort, IsAscending}
use Rattle.sort_spec.proofs.SortLemmas.{ins_append, sorted_stays}
use Rattle.sort_spec.proofs.StableLemmas.{ins_ascends}

-- the first of a list are those of its first element and as many others
take-first : {X : Type 0} (n : ℕ) (y : X) (ys : List X) → take n (y ∷ ys) ≡ take n (y ∷ take n ys)
take-first zero y ys = refl
take-first (suc n) y ys = ap (λ l. y ∷ l) (sym (take-take n (suc n) ys (omega arith)))

-- a fact of each element is one of each of the first
take_each : {X : Type 0} (P : X → Type 0) (n : ℕ) (xs : List X)
    → AllByRecursion P xs → AllByRecursion P (take n xs)
take_each P zero xs a = tt
take_each P (suc n) [] a = tt
take_each P (suc n) (x ∷ xs) a = (a.0, take_each P n xs a.1)

module _ {X : Type 0} (lt : X → X → Bool) where
  -- what comes first after an insertion is found with what came first
  take-insert_by : (n : ℕ) (x y : X) (ys : List X) (b : Bool)
      → take n (insert lt x ys) ≡ take n (insert lt x (take n ys))
      → take (suc n) (if b then x ∷ y ∷ ys else (y ∷ insert lt x ys))
      ≡ take (suc n) (if b then x ∷ y ∷ take n ys else (y ∷ insert lt x (take n ys)))
  take-insert_by n x y ys true e = ap (λ l. x ∷ l) (take-first n y ys)
  take-insert_by n x y ys false e = ap (λ l. y ∷ l) e

  -- also where the test decides
  take-insert : (n : ℕ) (x : X) (ys : List X)
      → take n (insert lt x ys) ≡ take n (insert lt x (take n ys))
  take-insert zero x ys = refl
  take-insert (suc n) x [] = refl
  take-insert (suc n) x (y ∷ ys) = take-insert_by n x y ys (lt x y) (take-insert n x ys)

  -- and after all insertions
  take-ins : (n : ℕ) (done xs : List X)
      → take n (ins_from lt done xs) ≡ take n (ins_from lt (take n done) xs)
  take-ins n done [] = sym (take-take n n done (omega arith))
  take-ins n done (x ∷ xs) =
      take-ins n (insert lt x done) xs
      ∙ ap (λ l. take n (ins_from lt l xs)) (take-insert n x done)
      ∙ sym (take-ins n (insert lt x (take n done)) xs)

  -- the first of a list in order are in order
  take_ascends : (n : ℕ) (xs : List X) → IsAscending lt xs → IsAscending lt (take n xs)
  take_ascends zero xs a = tt
  take_ascends (suc n) [] a = tt
  take_ascends (suc n) (x ∷ xs) a =
      (take_each (λ y. lt y x ≡ false) n xs a.0, take_ascends n xs a.1)

module _ {X : Type 0} (lt : X → X → Bool) (o : IsStrictWeakOrder lt) where
  -- of the elements before others only those that come first count
  pub first_sorted : (n : ℕ) (xs ys : List X)
      → take n (ins_sort lt (xs ++ ys)) ≡ take n (ins_sort lt (take n (ins_sort lt xs) ++ ys))
  first_sorted n xs ys =
      let first = take n (ins_sort lt xs) in
      ap (take n) (ins_append lt [] xs ys)
      ∙ take-ins lt n (ins_sort lt xs) ys
      ∙ ap (λ l. take n (ins_from lt l ys))
      (sym (sorted_stays lt first (take_ascends lt n (ins_sort lt xs) (ins_ascends lt o [] xs tt))))
      ∙ ap (take n) (sym (ins_append lt [] first ys))

  -- so what comes first stays the same behind lists in which the same comes first
  pub first_of_more : (n : ℕ) (xs zs ys : List X)
      → take n (ins_sort lt xs) ≡ take n (ins_sort lt zs)
      → take n (ins_sort lt (xs ++ ys)) ≡ take n (ins_sort lt (zs ++ ys))
  first_of_more n xs zs ys e =
      first_sorted n xs ys
      ∙ ap (λ w. take n (ins_sort lt (w ++ ys))) e
      ∙ sym (first_sorted n zs ys)

  -- and what comes first comes first of itself
  pub first_again : (n : ℕ) (xs : List X)
      → take n (ins_sort lt (take n (ins_sort lt xs))) ≡ take n (ins_sort lt xs)
  first_again n xs =
      ap (λ w. take n (ins_sort lt w)) (sym (append-nil (take n (ins_sort lt xs))))
      ∙ sym (first_sorted n xs [])
      ∙ ap (λ w. take n (ins_sort lt w)) (append-nil xs)
