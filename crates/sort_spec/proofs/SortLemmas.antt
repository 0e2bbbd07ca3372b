-- What a sort by insertion gives, by any test.
use Rattle.std.proofs.Common.{◌≡◌, List, [], ◌∷◌, ◌++◌, Bool, true, false, refl, sym, ◌∙◌, ap}
use Rattle.std.proofs.Common.{if◌then◌else◌}
use Rattle.std.specs.List.{AllByRecursion}
use Rattle.sort_spec.specs.Sorting.{insert, ins_from, ins_sort, IsAscending}

-- a fact of each element of two lists is one of each of them joined
pub each_append : {X : Type 0} (P : X → Type 0) (xs ys : List X)
    → AllByRecursion P xs → AllByRecursion P ys → AllByRecursion P (xs ++ ys)
each_append P [] ys a b = b
each_append P (x ∷ xs) ys a b = (a.0, each_append P xs ys a.1 b)

-- what follows from a fact of each element holds of each
pub each_weaker : {X : Type 0} (P Q : X → Type 0) (xs : List X)
    → ((x : X) → P x → Q x) → AllByRecursion P xs → AllByRecursion Q xs
each_weaker P Q [] f a = tt
each_weaker P Q (x ∷ xs) f a = (f x a.0, each_weaker P Q xs f a.1)

-- a fact of the new element and of each other one holds of each after the insertion
insert_each_by : {X : Type 0} (P : X → Type 0) (b : Bool) (x y : X) (ys zs : List X)
    → P x → P y → AllByRecursion P ys → AllByRecursion P zs
    → AllByRecursion P (if b then x ∷ y ∷ ys else (y ∷ zs))
insert_each_by P true x y ys zs p q a b = (p, (q, a))
insert_each_by P false x y ys zs p q a b = (q, b)

-- also where the test decides
pub insert_each : {X : Type 0} (P : X → Type 0) (lt : X → X → Bool) (x : X) (ys : List X)
    → P x → AllByRecursion P ys → AllByRecursion P (insert lt x ys)
insert_each P lt x [] p a = (p, tt)
insert_each P lt x (y ∷ ys) p a =
    insert_each_by P (lt x y) x y ys (insert lt x ys) p a.0 a.1 (insert_each P lt x ys p a.1)

-- and of each after all insertions
pub ins_each : {X : Type 0} (P : X → Type 0) (lt : X → X → Bool) (done xs : List X)
    → AllByRecursion P done → AllByRecursion P xs → AllByRecursion P (ins_from lt done xs)
ins_each P lt done [] a b = a
ins_each P lt done (x ∷ xs) a b =
    ins_each P lt (insert lt x done) xs (insert_each P lt x done b.0 a) b.1

module _ {X : Type 0} (lt : X → X → Bool) where
  -- an element that is below all others goes before them
  pub insert_front : (t : X) (ys : List X) → AllByRecursion (λ y. lt t y ≡ true) ys
      → insert lt t ys ≡ t ∷ ys
  insert_front t [] h = refl
  insert_front t (y ∷ ys) h = let e = h.0 in rw e

  -- an element that isn't below the first goes behind it
  pub insert_behind : (x t : X) (ys : List X) → lt x t ≡ false
      → insert lt x (t ∷ ys) ≡ t ∷ insert lt x ys
  insert_behind x t ys h = rw h

  -- and so do all of which none is below it
  pub ins_behind : (t : X) (done xs : List X) → AllByRecursion (λ x. lt x t ≡ false) xs
      → ins_from lt (t ∷ done) xs ≡ t ∷ ins_from lt done xs
  ins_behind t done [] h = refl
  ins_behind t done (x ∷ xs) h =
      ap (λ l. ins_from lt l xs) (insert_behind x t done h.0)
      ∙ ins_behind t (insert lt x done) xs h.1

  -- elements are inserted, and then those that follow them
  pub ins_append : (done xs ys : List X)
      → ins_from lt done (xs ++ ys) ≡ ins_from lt (ins_from lt done xs) ys
  ins_append done [] ys = refl
  ins_append done (x ∷ xs) ys = ins_append (insert lt x done) xs ys

  -- the first of the least comes first
  pub first_least : (xs : List X) (t : X) (ys : List X)
      → AllByRecursion (λ x. lt t x ≡ true) xs → AllByRecursion (λ y. lt y t ≡ false) ys
      → ins_sort lt (xs ++ t ∷ ys) ≡ t ∷ ins_sort lt (xs ++ ys)
  first_least xs t ys a b =
      ins_append [] xs (t ∷ ys)
      ∙ ap (λ l. ins_from lt l ys)
      (insert_front t (ins_from lt [] xs) (ins_each (λ x. lt t x ≡ true) lt [] xs tt a))
      ∙ ins_behind t (ins_from lt [] xs) ys b
      ∙ ap (λ l. t ∷ l) (sym (ins_append [] xs ys))

  -- a list in order is its own sort
  pub sorted_stays : (xs : List X) → IsAscending lt xs → ins_sort lt xs ≡ xs
  sorted_stays [] h = refl
  sorted_stays (x ∷ xs) h =
      ins_behind x [] xs h.0 ∙ ap (λ l. x ∷ l) (sorted_stays xs h.1)
