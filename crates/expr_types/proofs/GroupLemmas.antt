-- Groups by a test that is an equivalence, one group after another.
use Rattle.std.proofs.Common.{◌≡◌, List, [], ◌∷◌, Bool, true, false, not, filter, map}
use Rattle.std.proofs.Common.{if◌then◌else◌, refl, sym, ◌∙◌, ap}
use Rattle.expr_types.specs.Groups.{firsts, groups}

-- what is kept of a first element by two tests that agree
keep_same : {X : Type 0} (b c : Bool) (x : X) (xs ys : List X) → b ≡ c → xs ≡ ys
    → (if b then x ∷ xs else xs) ≡ (if c then x ∷ ys else ys)
keep_same b c x xs ys e f =
    ap (λ w. if w then x ∷ xs else xs) e ∙ ap (λ w. if c then x ∷ w else w) f

-- tests that agree keep the same
pub filter-same : {X : Type 0} (p q : X → Bool) → ((z : X) → p z ≡ q z) → (xs : List X)
    → filter p xs ≡ filter q xs
filter-same p q e [] = refl
filter-same p q e (x ∷ xs) =
    keep_same (p x) (q x) x (filter p xs) (filter q xs) (e x) (filter-same p q e xs)

-- what one test keeps of a first element that another keeps
filter-keep : {X : Type 0} (b : Bool) (p : X → Bool) (x : X) (xs : List X)
    → filter p (if b then x ∷ xs else xs)
    ≡ (if b then (if p x then x ∷ filter p xs else filter p xs) else filter p xs)
filter-keep true p x xs = refl
filter-keep false p x xs = refl

-- two choices in either order
keep_swap : {X : Type 0} (b c : Bool) (x : X) (xs : List X)
    → (if b then (if c then x ∷ xs else xs) else xs)
    ≡ (if c then (if b then x ∷ xs else xs) else xs)
keep_swap true c x xs = refl
keep_swap false true x xs = refl
keep_swap false false x xs = refl

-- tests keep the same in either order
pub filter-swap : {X : Type 0} (p q : X → Bool) (xs : List X)
    → filter p (filter q xs) ≡ filter q (filter p xs)
filter-swap p q [] = refl
filter-swap p q (x ∷ xs) =
    filter-keep (q x) p x (filter q xs)
    ∙ ap (λ w. if q x then (if p x then x ∷ w else w) else w) (filter-swap p q xs)
    ∙ keep_swap (q x) (p x) x (filter q (filter p xs))
    ∙ sym (filter-keep (p x) q x (filter p xs))

-- an element that one test drops is no matter where the other drops it too
keep_past : {X : Type 0} (b c : Bool) (x : X) (xs : List X) → (c ≡ false → b ≡ false)
    → (if b then x ∷ xs else xs) ≡ (if c then (if b then x ∷ xs else xs) else xs)
keep_past b true x xs h = refl
keep_past true false x xs h = let e = h refl in absurd (cc)
keep_past false false x xs h = refl

-- a test that drops all that another drops keeps the same of what that keeps
pub filter-past : {X : Type 0} (p q : X → Bool) → ((z : X) → q z ≡ false → p z ≡ false)
    → (xs : List X) → filter p xs ≡ filter p (filter q xs)
filter-past p q h [] = refl
filter-past p q h (x ∷ xs) =
    keep_past (p x) (q x) x (filter p xs) (h x)
    ∙ ap (λ w. if q x then (if p x then x ∷ w else w) else w) (filter-past p q h xs)
    ∙ sym (filter-keep (q x) p x (filter q xs))

-- functions that agree where a test passes give the same of what it keeps
map_kept : {X Y : Type 0} (b : Bool) (f g : X → Y) (x : X) (xs : List X)
    → (b ≡ true → f x ≡ g x) → map f xs ≡ map g xs
    → map f (if b then x ∷ xs else xs) ≡ map g (if b then x ∷ xs else xs)
map_kept true f g x xs h e = ap (λ w. w ∷ map f xs) (h refl) ∙ ap (λ w. g x ∷ w) e
map_kept false f g x xs h e = e

-- for all elements
pub map-filter : {X Y : Type 0} (p : X → Bool) (f g : X → Y)
    → ((x : X) → p x ≡ true → f x ≡ g x) → (xs : List X)
    → map f (filter p xs) ≡ map g (filter p xs)
map-filter p f g h [] = refl
map-filter p f g h (x ∷ xs) =
    map_kept (p x) f g x (filter p xs) (h x) (map-filter p f g h xs)

-- what a test that is true, or false, becomes
not_true : (b : Bool) → not b ≡ true → b ≡ false
not_true true e = absurd (cc)
not_true false e = refl

not_false : (b : Bool) → not b ≡ false → b ≡ true
not_false true e = refl
not_false false e = absurd (cc)

-- a first element that passes, and one that fails
keep_true : {X : Type 0} (p : X → Bool) (x : X) (xs : List X) → p x ≡ true
    → filter p (x ∷ xs) ≡ x ∷ filter p xs
keep_true p x xs e = rw e

keep_false : {X : Type 0} (p : X → Bool) (x : X) (xs : List X) → p x ≡ false
    → filter p (x ∷ xs) ≡ filter p xs
keep_false p x xs e = rw e

module _ {X : Type 0} (same : X → X → Bool) (itself : (x : X) → same x x ≡ true)
    (alike : (x y z : X) → same x y ≡ true → same x z ≡ same y z) where
  -- what is another than x
  abbrev pub other : X → X → Bool
  other x z = not (same x z)

  -- the other way round
  pub same-turns : (x y : X) → same x y ≡ true → same y x ≡ true
  same-turns x y e = sym (alike x y x e) ∙ itself x

  -- also where it is false
  differ_turns : (x y : X) (b : Bool) → same y x ≡ b → same x y ≡ false → same y x ≡ false
  differ_turns x y true e f = let t = same-turns y x e in absurd (cc)
  differ_turns x y false e f = e

  -- what is like x isn't like what differs from x
  differ_alike : (x y z : X) (b : Bool) → same y z ≡ b → same x y ≡ false → same x z ≡ true
      → same y z ≡ false
  differ_alike x y z true e f t =
      let a = alike x z y t in
      let c = same-turns y z e in absurd (cc)
  differ_alike x y z false e f t = e

  -- the first elements of other kinds
  firsts_other_by : (x y : X) (ys : List X) (b : Bool) → same x y ≡ b
      → filter (other x) (firsts same ys) ≡ firsts same (filter (other x) ys)
      → filter (other x) (firsts same (y ∷ ys)) ≡ firsts same (filter (other x) (y ∷ ys))
  firsts_other_by x y ys true e ih =
      let n : other x y ≡ false = rw e refl in
      keep_false (other x) y (filter (other y) (firsts same ys)) n
      ∙ sym (filter-past (other x) (other y)
      (λ z d. ap not (alike x y z e) ∙ d) (firsts same ys))
      ∙ ih
      ∙ ap (firsts same) (sym (keep_false (other x) y ys n))
  firsts_other_by x y ys false e ih =
      let n : other x y ≡ true = rw e refl in
      keep_true (other x) y (filter (other y) (firsts same ys)) n
      ∙ ap (λ w. y ∷ w) (filter-swap (other x) (other y) (firsts same ys))
      ∙ ap (λ w. y ∷ filter (other y) w) ih
      ∙ ap (firsts same) (sym (keep_true (other x) y ys n))

  -- are those of what is left without x's kind
  firsts-other : (x : X) (ys : List X)
      → filter (other x) (firsts same ys) ≡ firsts same (filter (other x) ys)
  firsts-other x [] = refl
  firsts-other x (y ∷ ys) = firsts_other_by x y ys (same x y) refl (firsts-other x ys)

  -- an element, and then the firsts of what is left without its kind
  pub firsts-cons : (x : X) (xs : List X)
      → firsts same (x ∷ xs) ≡ x ∷ firsts same (filter (other x) xs)
  firsts-cons x xs = ap (λ w. x ∷ w) (firsts-other x xs)

  -- the group of another element has none of x's kind
  group_other : (x y : X) (xs : List X) → other x y ≡ true
      → filter (same y) (x ∷ xs) ≡ filter (same y) (filter (other x) xs)
  group_other x y xs n =
      let d = not_true (same x y) n in
      keep_false (same y) x xs (differ_turns x y (same y x) refl d)
      ∙ filter-past (same y) (other x)
      (λ z e. differ_alike x y z (same y z) refl d (not_false (same x z) e)) xs

  -- an element with all of its kind, and then the groups of what is left without its kind
  pub groups-cons : (x : X) (xs : List X)
      → groups same (x ∷ xs) ≡ (x ∷ filter (same x) xs) ∷ groups same (filter (other x) xs)
  groups-cons x xs =
      let later = filter (other x) xs in
      ap (λ w. w ∷ map (λ y. filter (same y) (x ∷ xs)) (filter (other x) (firsts same xs)))
      (keep_true (same x) x xs (itself x))
      ∙ ap (λ w. (x ∷ filter (same x) xs) ∷ w)
      (map-filter (other x) (λ y. filter (same y) (x ∷ xs)) (λ y. filter (same y) later)
      (λ y n. group_other x y xs n) (firsts same xs)
      ∙ ap (map (λ y. filter (same y) later)) (firsts-other x xs))
