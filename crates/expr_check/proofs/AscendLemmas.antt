-- What keeps a list in order, and short lists.
use Rattle.std.proofs.Common.{◌≡◌, ℕ, zero, suc, ◌+◌, ◌≤◌, ◌<◌, List, [], ◌∷◌, Bool, true, false}
use Rattle.std.proofs.Common.{not}
use Rattle.std.proofs.Common.{length, take, filter, map, if◌then◌else◌, refl, ◌∙◌, arith}
use Rattle.std.specs.List.{AllByRecursion}
use Rattle.sort_spec.specs.Sorting.{insert, ins_from, IsAscending}
use Rattle.sort_spec.proofs.SortLemmas.{each_weaker}
use Rattle.expr_types.specs.Groups.{firsts}

module _ {X : Type 0} (P : X → Type 0) where
  -- a fact of each element is one of each that is kept
  kept_by : (b : Bool) (x : X) (xs : List X) → P x → AllByRecursion P xs
      → AllByRecursion P (if b then x ∷ xs else xs)
  kept_by true x xs p a = (p, a)
  kept_by false x xs p a = a

  -- by any test
  pub each_filter : (q : X → Bool) (xs : List X) → AllByRecursion P xs
      → AllByRecursion P (filter q xs)
  each_filter q [] a = tt
  each_filter q (x ∷ xs) a = kept_by (q x) x (filter q xs) a.0 (each_filter q xs a.1)

  -- of each of the first so many
  pub each_take : (n : ℕ) (xs : List X) → AllByRecursion P xs → AllByRecursion P (take n xs)
  each_take zero xs a = tt
  each_take (suc n) [] a = tt
  each_take (suc n) (x ∷ xs) a = (a.0, each_take n xs a.1)

  -- and of the first of each kind
  pub each_firsts : (same : X → X → Bool) (xs : List X) → AllByRecursion P xs
      → AllByRecursion P (firsts same xs)
  each_firsts same [] a = tt
  each_firsts same (x ∷ xs) a =
      (a.0, each_filter (λ y. not (same x y)) (firsts same xs) (each_firsts same xs a.1))

module _ {X : Type 0} (lt : X → X → Bool) where
  -- what is kept of a list in order is in order
  ascends_kept : (b : Bool) (x : X) (xs : List X) → AllByRecursion (λ y. lt y x ≡ false) xs
      → IsAscending lt xs → IsAscending lt (if b then x ∷ xs else xs)
  ascends_kept true x xs a s = (a, s)
  ascends_kept false x xs a s = s

  -- by any test
  pub ascends_filter : (q : X → Bool) (xs : List X) → IsAscending lt xs
      → IsAscending lt (filter q xs)
  ascends_filter q [] a = tt
  ascends_filter q (x ∷ xs) a =
      ascends_kept (q x) x (filter q xs) (each_filter (λ y. lt y x ≡ false) q xs a.0)
      (ascends_filter q xs a.1)

  -- so are the first so many
  pub ascends_take : (n : ℕ) (xs : List X) → IsAscending lt xs → IsAscending lt (take n xs)
  ascends_take zero xs a = tt
  ascends_take (suc n) [] a = tt
  ascends_take (suc n) (x ∷ xs) a =
      (each_take (λ y. lt y x ≡ false) n xs a.0, ascends_take n xs a.1)

  -- and the first of each kind
  pub ascends_firsts : (same : X → X → Bool) (xs : List X) → IsAscending lt xs
      → IsAscending lt (firsts same xs)
  ascends_firsts same [] a = tt
  ascends_firsts same (x ∷ xs) a = (
    each_filter (λ y. lt y x ≡ false) (λ y. not (same x y)) (firsts same xs)
        (each_firsts (λ y. lt y x ≡ false) same xs a.0),
    ascends_filter (λ y. not (same x y)) (firsts same xs) (ascends_firsts same xs a.1),
  )

  -- a list of at most one element is in order
  pub ascends_short : (xs : List X) → length xs ≤ 1 → IsAscending lt xs
  ascends_short [] h = tt
  ascends_short (x ∷ []) h = (tt, tt)
  ascends_short (x ∷ y ∷ xs) h = absurd (omega arith)

module _ {X Y : Type 0} (lt : X → X → Bool) (less : Y → Y → Bool) (f : X → Y)
    (P : X → Type 0) (alike : (x y : X) → P x → P y → less (f x) (f y) ≡ lt x y) where
  -- an element that isn't below another has a value that isn't below the other's
  each_map : (x : X) (xs : List X) → P x → AllByRecursion P xs
      → AllByRecursion (λ y. lt y x ≡ false) xs
      → AllByRecursion (λ z. less z (f x) ≡ false) (map f xs)
  each_map x [] p ps a = tt
  each_map x (y ∷ xs) p ps a = (alike y x ps.0 p ∙ a.0, each_map x xs p ps.1 a.1)

  -- values that compare as their elements do are in order as they are
  pub ascends_map : (xs : List X) → AllByRecursion P xs → IsAscending lt xs
      → IsAscending less (map f xs)
  ascends_map [] ps a = tt
  ascends_map (x ∷ xs) ps a = (each_map x xs ps.0 ps.1 a.0, ascends_map xs ps.1 a.1)

-- a fact that holds of all holds of each
pub each_of : {X : Type 0} (P : X → Type 0) (xs : List X) → ((x : X) → P x) → AllByRecursion P xs
each_of P [] f = tt
each_of P (x ∷ xs) f = (f x, each_of P xs f)

-- what is kept is no longer
length_kept : {X : Type 0} (b : Bool) (x : X) (xs : List X) (n : ℕ) → length xs ≤ n
    → length (if b then x ∷ xs else xs) ≤ n + 1
length_kept true x xs n h = omega arith
length_kept false x xs n h = omega arith

-- by any test
pub shorter-filter : {X : Type 0} (q : X → Bool) (xs : List X) → length (filter q xs) ≤ length xs
shorter-filter q [] = omega arith
shorter-filter q (x ∷ xs) =
    let h = length_kept (q x) x (filter q xs) (length xs) (shorter-filter q xs) in omega arith

-- nor are the first of each kind
pub shorter-firsts : {X : Type 0} (same : X → X → Bool) (xs : List X)
    → length (firsts same xs) ≤ length xs
shorter-firsts same [] = omega arith
shorter-firsts same (x ∷ xs) =
    let h = shorter-filter (λ y. not (same x y)) (firsts same xs) in
    let k = shorter-firsts same xs in omega arith

-- the values of a list are as many
pub length-map : {X Y : Type 0} (f : X → Y) (xs : List X) → length (map f xs) ≡ length xs
length-map f [] = refl
length-map f (x ∷ xs) = let h = length-map f xs in omega arith

-- an insertion adds one
length_insert_by : {X : Type 0} (b : Bool) (x y : X) (ys zs : List X)
    → length zs ≡ length ys + 1 → length (if b then x ∷ y ∷ ys else (y ∷ zs)) ≡ length ys + 2
length_insert_by true x y ys zs h = omega arith
length_insert_by false x y ys zs h = omega arith

-- wherever it goes
length-insert : {X : Type 0} (lt : X → X → Bool) (x : X) (ys : List X)
    → length (insert lt x ys) ≡ length ys + 1
length-insert lt x [] = omega arith
length-insert lt x (y ∷ ys) =
    let h = length_insert_by (lt x y) x y ys (insert lt x ys) (length-insert lt x ys) in omega arith

-- a sort has as many elements
pub length-ins : {X : Type 0} (lt : X → X → Bool) (done xs : List X)
    → length (ins_from lt done xs) ≡ length done + length xs
length-ins lt done [] = omega arith
length-ins lt done (x ∷ xs) =
    let h = length-ins lt (insert lt x done) xs in
    let k = length-insert lt x done in omega arith

module _ {X : Type 0} (same : X → X → Bool) (itself : (x : X) → same x x ≡ true) where
  -- something is kept of a list whose first element passes
  some_first : (b : Bool) (x : X) (xs : List X) → b ≡ true
      → 0 < length (if b then x ∷ xs else xs)
  some_first true x xs e = omega arith
  some_first false x xs e = absurd (cc)

  -- and of a longer list
  some_more : (b : Bool) (x : X) (xs : List X) → 0 < length xs
      → 0 < length (if b then x ∷ xs else xs)
  some_more true x xs h = omega arith
  some_more false x xs h = h

  -- each element of a list has one of its kind in it
  pub each_has_kind : (xs : List X) → AllByRecursion (λ x. 0 < length (filter (same x) xs)) xs
  each_has_kind [] = tt
  each_has_kind (y ∷ ys) = (
    some_first (same y y) y (filter (same y) ys) (itself y),
    each_weaker (λ x. 0 < length (filter (same x) ys))
        (λ x. 0 < length (filter (same x) (y ∷ ys))) ys
        (λ x h. some_more (same x y) y (filter (same x) ys) h) (each_has_kind ys),
  )

-- each element that is kept passes
passes_kept : {X : Type 0} (p : X → Bool) (b : Bool) (x : X) (xs : List X) → p x ≡ b
    → AllByRecursion (λ y. p y ≡ true) xs
    → AllByRecursion (λ y. p y ≡ true) (if b then x ∷ xs else xs)
passes_kept p true x xs e a = (e, a)
passes_kept p false x xs e a = a

-- for all elements
pub each_passes : {X : Type 0} (p : X → Bool) (xs : List X)
    → AllByRecursion (λ y. p y ≡ true) (filter p xs)
each_passes p [] = tt
each_passes p (x ∷ xs) = passes_kept p (p x) x (filter p xs) refl (each_passes p xs)
