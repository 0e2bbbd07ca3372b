-- What may be dropped of the elements of which only the first are wanted.
use Rattle.std.proofs.Common.{◌≡◌, ℕ, zero, suc, List, [], ◌∷◌, ◌++◌, take, Bool, true, false}
use Rattle.std.proofs.Common.{if◌then◌else◌, refl, sym, ◌∙◌, ap}
use Rattle.std.specs.List.{AllByRecursion}
use Rattle.std.specs.Cmp.{IsStrictWeakOrder}
use Rattle.tuple_values.specs.Document.{Doc}
use Rattle.sort_spec.specs.Sorting.{insert, ins_from, ins_sort, IsAscending}
use Rattle.sort_spec.specs.Terms.{less}
use Rattle.sort_spec.specs.declared.term.SortTerm.{SortTerm}
use Rattle.sort_spec.proofs.SortLemmas.{ins_append, sorted_stays}
use Rattle.sort_spec.proofs.StableLemmas.{ins_ascends}
use Rattle.sort_spec.proofs.TermLemmas.{less_is_weak}
use Rattle.expr_types.specs.Orders.{top_list}

-- the first of the first are the first
pub take-take : {X : Type 0} (n : ℕ) (xs : List X) → take n (take n xs) ≡ take n xs
take-take zero xs = refl
take-take (suc n) [] = refl
take-take (suc n) (x ∷ xs) = ap (λ w. x ∷ w) (take-take n xs)

-- behind one more element one less is wanted
take-take-suc : {X : Type 0} (n : ℕ) (xs : List X) → take n (take (suc n) xs) ≡ take n xs
take-take-suc zero xs = refl
take-take-suc (suc n) [] = refl
take-take-suc (suc n) (x ∷ xs) = ap (λ w. x ∷ w) (take-take-suc n xs)

-- what holds of each element holds of each of the first
pub each_take : {X : Type 0} (P : X → Type 0) (n : ℕ) (xs : List X) → AllByRecursion P xs
    → AllByRecursion P (take n xs)
each_take P zero xs a = tt
each_take P (suc n) [] a = tt
each_take P (suc n) (x ∷ xs) a = (a.0, each_take P n xs a.1)

module _ {X : Type 0} (lt : X → X → Bool) where
  -- the first of a list in order are in order
  pub take_ascends : (n : ℕ) (xs : List X) → IsAscending lt xs → IsAscending lt (take n xs)
  take_ascends zero xs a = tt
  take_ascends (suc n) [] a = tt
  take_ascends (suc n) (x ∷ xs) a =
      (each_take (λ y. lt y x ≡ false) n xs a.0, take_ascends n xs a.1)

  -- an element goes into the first as it goes into all
  insert_take_by : (n : ℕ) (x y : X) (ys : List X) (b : Bool)
      → take n (insert lt x (take n ys)) ≡ take n (insert lt x ys)
      → take (suc n) (if b then x ∷ y ∷ take n ys else (y ∷ insert lt x (take n ys)))
      ≡ take (suc n) (if b then x ∷ y ∷ ys else (y ∷ insert lt x ys))
  insert_take_by zero x y ys true e = refl
  insert_take_by (suc n) x y ys true e =
      ap (λ w. x ∷ y ∷ w) (take-take-suc n ys)
  insert_take_by n x y ys false e = ap (λ w. y ∷ w) e

  -- also where the test decides
  insert_take : (n : ℕ) (x : X) (ys : List X)
      → take n (insert lt x (take n ys)) ≡ take n (insert lt x ys)
  insert_take zero x ys = refl
  insert_take (suc n) x [] = refl
  insert_take (suc n) x (y ∷ ys) = insert_take_by n x y ys (lt x y) (insert_take n x ys)

  -- and so do all
  ins_take : (n : ℕ) (done others xs : List X) → take n done ≡ take n others
      → take n (ins_from lt done xs) ≡ take n (ins_from lt others xs)
  ins_take n done others [] e = e
  ins_take n done others (x ∷ xs) e =
      ins_take n (insert lt x done) (insert lt x others) xs
      (sym (insert_take n x done) ∙ ap (λ w. take n (insert lt x w)) e ∙ insert_take n x others)

  -- of what is sorted only the first need be kept
  pub sort_take : IsStrictWeakOrder lt → (n : ℕ) (xs ys : List X)
      → take n (ins_sort lt (take n (ins_sort lt xs) ++ ys)) ≡ take n (ins_sort lt (xs ++ ys))
  sort_take weak n xs ys =
      let first = take n (ins_sort lt xs) in
      let stays : ins_sort lt first ≡ first =
      sorted_stays lt first (take_ascends n (ins_sort lt xs) (ins_ascends lt weak [] xs tt)) in
      ap (take n) (ins_append lt [] first ys)
      ∙ ap (λ w. take n (ins_from lt w ys)) stays
      ∙ ins_take n first (ins_sort lt xs) ys (take-take n (ins_sort lt xs))
      ∙ ap (take n) (sym (ins_append lt [] xs ys))

-- the same by the terms of a sort
pub top_list-cut : (n : ℕ) (terms : List SortTerm) (docs rest : List Doc)
    → top_list n terms (top_list n terms docs ++ rest) ≡ top_list n terms (docs ++ rest)
top_list-cut n terms docs rest = sort_take (less terms) (less_is_weak terms) n docs rest
