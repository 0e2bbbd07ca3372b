-- What a test keeps of a sorted list, of what is made of elements, and by two tests.
use Rattle.std.proofs.Common.{◌≡◌, List, [], ◌∷◌, Bool, true, false, ◌&&◌, filter, map}
use Rattle.std.proofs.Common.{if◌then◌else◌, refl, sym, ◌∙◌, ap}
use Rattle.std.specs.Cmp.{IsStrictWeakOrder}
use Rattle.std.specs.List.{AllByRecursion}
use Rattle.std.specs.List.Sorted.{ties}
use Rattle.sort_spec.specs.Sorting.{ins_sort, IsAscending}
use Rattle.sort_spec.proofs.StableLemmas.{ascending_unique, tie_ins, ins_ascends}
use Rattle.expr_types.proofs.GroupLemmas.{filter-swap}

-- a fact of each element is one of each that is kept
kept_each : {X : Type 0} (P : X → Type 0) (b : Bool) (x : X) (xs : List X) → P x
    → AllByRecursion P xs → AllByRecursion P (if b then x ∷ xs else xs)
kept_each P true x xs p a = (p, a)
kept_each P false x xs p a = a

-- by any test
each_kept : {X : Type 0} (P : X → Type 0) (q : X → Bool) (xs : List X) → AllByRecursion P xs
    → AllByRecursion P (filter q xs)
each_kept P q [] a = tt
each_kept P q (x ∷ xs) a = kept_each P (q x) x (filter q xs) a.0 (each_kept P q xs a.1)

module _ {X : Type 0} (lt : X → X → Bool) where
  -- what is kept of a list in order is in order
  kept_ascends_by : (b : Bool) (x : X) (xs : List X) → AllByRecursion (λ y. lt y x ≡ false) xs
      → IsAscending lt xs → IsAscending lt (if b then x ∷ xs else xs)
  kept_ascends_by true x xs a s = (a, s)
  kept_ascends_by false x xs a s = s

  -- by any test
  kept_ascends : (q : X → Bool) (xs : List X) → IsAscending lt xs → IsAscending lt (filter q xs)
  kept_ascends q [] a = tt
  kept_ascends q (x ∷ xs) a =
      kept_ascends_by (q x) x (filter q xs) (each_kept (λ y. lt y x ≡ false) q xs a.0)
      (kept_ascends q xs a.1)

-- what is kept of a sorted list is what is kept of the list, sorted
pub filter-ins : {X : Type 0} (lt : X → X → Bool) → IsStrictWeakOrder lt → (p : X → Bool)
    (xs : List X) → filter p (ins_sort lt xs) ≡ ins_sort lt (filter p xs)
filter-ins lt o p xs =
    ascending_unique lt o (filter p (ins_sort lt xs)) (ins_sort lt (filter p xs))
    (kept_ascends lt p (ins_sort lt xs) (ins_ascends lt o [] xs tt))
    (ins_ascends lt o [] (filter p xs) tt)
    (λ x. filter-swap (ties lt x) p (ins_sort lt xs)
    ∙ ap (filter p) (tie_ins lt o x [] xs tt)
    ∙ filter-swap p (ties lt x) xs
    ∙ sym (tie_ins lt o x [] (filter p xs) tt))

-- what is kept of one more element, by tests that agree
kept_made : {X Y : Type 0} (b c : Bool) (x : X) (y : Y) (made : X → Y) (xs : List X) (ys : List Y)
    → b ≡ c → y ≡ made x → ys ≡ map made xs
    → (if b then y ∷ ys else ys) ≡ map made (if c then x ∷ xs else xs)
kept_made true true x y made xs ys e f later =
    ap (λ w. w ∷ ys) f ∙ ap (λ w. made x ∷ w) later
kept_made true false x y made xs ys e f later = absurd (cc)
kept_made false true x y made xs ys e f later = absurd (cc)
kept_made false false x y made xs ys e f later = later

-- of what is made of each element, where the test is the same of both
pub filter-map : {X Y : Type 0} (made : X → Y) (p : X → Bool) (q : Y → Bool) (xs : List X)
    → AllByRecursion (λ x. q (made x) ≡ p x) xs
    → filter q (map made xs) ≡ map made (filter p xs)
filter-map made p q [] a = refl
filter-map made p q (x ∷ xs) a =
    kept_made (q (made x)) (p x) x (made x) made (filter p xs) (filter q (map made xs)) a.0 refl
    (filter-map made p q xs a.1)

-- what a test of what is made keeps
pub filter-made : {X Y : Type 0} (made : X → Y) (q : Y → Bool) (xs : List X)
    → filter q (map made xs) ≡ map made (filter (λ x. q (made x)) xs)
filter-made made q [] = refl
filter-made made q (x ∷ xs) =
    kept_made (q (made x)) (q (made x)) x (made x) made (filter (λ x. q (made x)) xs)
    (filter q (map made xs)) refl refl (filter-made made q xs)

-- of one more element by two tests
both_by : {X : Type 0} (p q : X → Bool) (b : Bool) (x : X) (xs : List X)
    → filter (λ y. p y && q y) xs ≡ filter q (filter p xs)
    → (if b && q x then x ∷ filter (λ y. p y && q y) xs else filter (λ y. p y && q y) xs)
    ≡ filter q (if b then x ∷ filter p xs else filter p xs)
both_by p q true x xs later = ap (λ w. if q x then x ∷ w else w) later
both_by p q false x xs later = later

-- what two tests keep is what one keeps of what the other keeps
pub filter-both : {X : Type 0} (p q : X → Bool) (xs : List X)
    → filter (λ y. p y && q y) xs ≡ filter q (filter p xs)
filter-both p q [] = refl
filter-both p q (x ∷ xs) = both_by p q (p x) x xs (filter-both p q xs)

-- what every element passes keeps all
pub filter_true : {X : Type 0} (p : X → Bool) → ((x : X) → p x ≡ true) → (xs : List X)
    → filter p xs ≡ xs
filter_true p all [] = refl
filter_true p all (x ∷ xs) = let e = all x in rw e (ap (λ rest. x ∷ rest) (filter_true p all xs))
