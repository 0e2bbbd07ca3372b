-- Lists that are filtered, mapped and put together again from parts, and which of their items are
-- the last of their key.
use Rattle.std.proofs.Common.{◌≡◌, ◌≢◌, ◌⊎◌, inl, inr, ℕ, zero, suc, ◌+◌, ◌<◌, ◌==◌, Bool, true, false, cond, List, [], ◌∷◌, ◌++◌, length, filter, map, Contains, refl, sym, ap, subst, ◌∙◌, arith}
use Rattle.std.specs.List.{AllByRecursion}
use Rattle.std.proofs.lemmas.List.Elements.{Contains-append_right}
use Rattle.load_laws.proofs.CountingLemmas.{Contains-first, Contains-rest, Contains-cases, Contains-none, filter-Contains, Contains-filter}

-- what holds of what each item is mapped to holds of each item of the mapped list
pub each_map : {X Y : Type 0} (P : Y → Type 0) (f : X → Y) (xs : List X)
    → AllByRecursion (λ x. P (f x)) xs → AllByRecursion P (map f xs)
each_map P f [] a = tt
each_map P f (x ∷ xs) a = (a.0, each_map P f xs a.1)

-- and the other way
pub each_unmap : {X Y : Type 0} (P : Y → Type 0) (f : X → Y) (xs : List X)
    → AllByRecursion P (map f xs) → AllByRecursion (λ x. P (f x)) xs
each_unmap P f [] a = tt
each_unmap P f (x ∷ xs) a = (a.0, each_unmap P f xs a.1)

-- what follows from the test holds of each item that a filter takes
pub each_passing : {X : Type 0} (P : X → Type 0) (p : X → Bool) (xs : List X)
    → AllByRecursion (λ x. p x ≡ true → P x) xs → AllByRecursion P (filter p xs)
each_passing P p [] a = tt
each_passing {X} P p (x ∷ xs) a = go (p x) refl (each_passing P p xs a.1)
  where
    go : (b : Bool) → p x ≡ b → AllByRecursion P (filter p xs)
        → AllByRecursion P (cond b (x ∷ filter p xs) (filter p xs))
    go true is later = (a.0 is, later)
    go false is later = later

-- what holds of each item that a filter takes follows from the test
pub each_unfilter : {X : Type 0} (P : X → Type 0) (p : X → Bool) (xs : List X)
    → AllByRecursion P (filter p xs) → AllByRecursion (λ x. p x ≡ true → P x) xs
each_unfilter P p [] a = tt
each_unfilter {X} P p (x ∷ xs) a = go (p x) refl a (each_unfilter P p xs)
  where
    go : (b : Bool) → p x ≡ b → AllByRecursion P (cond b (x ∷ filter p xs) (filter p xs))
        → (AllByRecursion P (filter p xs) → AllByRecursion (λ x. p x ≡ true → P x) xs)
        → (p x ≡ true → P x) × AllByRecursion (λ x. p x ≡ true → P x) xs
    go true is r more = (λ _. r.0, more r.1)
    go false is r more = (λ t. absurd (let k : true ≡ false = sym t ∙ is in cc), more r)

-- a filter of a mapped list maps a filter
pub filter-map : {X Y : Type 0} (p : Y → Bool) (f : X → Y) (xs : List X)
    → filter p (map f xs) ≡ map f (filter (λ x. p (f x)) xs)
filter-map p f [] = refl
filter-map {X} {Y} p f (x ∷ xs) = go (p (f x)) (filter-map p f xs)
  where
    go : (b : Bool) → filter p (map f xs) ≡ map f (filter (λ x. p (f x)) xs)
        → cond b (f x ∷ filter p (map f xs)) (filter p (map f xs))
        ≡ map f (cond b (x ∷ filter (λ x. p (f x)) xs) (filter (λ x. p (f x)) xs))
    go true later = ap (λ (r : List Y). f x ∷ r) later
    go false later = later

-- two filters can change places
pub filter-filter : {X : Type 0} (p q : X → Bool) (xs : List X)
    → filter p (filter q xs) ≡ filter q (filter p xs)
filter-filter p q [] = refl
filter-filter {X} p q (x ∷ xs) = go (p x) (q x) refl refl (filter-filter p q xs)
  where
    go : (a b : Bool) → p x ≡ a → q x ≡ b → filter p (filter q xs) ≡ filter q (filter p xs)
        → filter p (cond b (x ∷ filter q xs) (filter q xs))
        ≡ filter q (cond a (x ∷ filter p xs) (filter p xs))
    go true true is be later = rw (is, be) (ap (λ (r : List X). x ∷ r) later)
    go true false is be later = rw be later
    go false true is be later = rw is later
    go false false is be later = later

-- what an item is mapped to
pub Contains-map : {X Y : Type 0} (f : X → Y) (xs : List X) (x : X) → Contains xs x
    → Contains (map f xs) (f x)
Contains-map f [] x c = absurd (Contains-none x c)
Contains-map {X} {Y} f (y ∷ xs) x c = go (Contains-cases y x xs c) (Contains-map f xs x)
  where
    go : (y ≡ x) ⊎ Contains xs x → (Contains xs x → Contains (map f xs) (f x))
        → Contains (f y ∷ map f xs) (f x)
    go (inl e) more = subst (Contains (f y ∷ map f xs)) (ap f e) (Contains-first (f y) (map f xs))
    go (inr later) more = Contains-rest (f y) (f x) (map f xs) (more later)

-- and nothing else
pub Contains-unmap : {X Y : Type 0} (f : X → Y) (xs : List X) (y : Y) → Contains (map f xs) y
    → (x : X) × Contains xs x × (f x ≡ y)
Contains-unmap f [] y c = absurd (Contains-none y c)
Contains-unmap {X} {Y} f (x ∷ xs) y c =
    go (Contains-cases (f x) y (map f xs) c) (Contains-unmap f xs y)
  where
    go : (f x ≡ y) ⊎ Contains (map f xs) y
        → (Contains (map f xs) y → (z : X) × Contains xs z × (f z ≡ y))
        → (z : X) × Contains (x ∷ xs) z × (f z ≡ y)
    go (inl e) more = (x, Contains-first x xs, e)
    go (inr later) more =
        let r = more later in (r.0, Contains-rest x r.0 xs r.1, r.2)

-- each item behind which none of its key stands has the property
abbrev pub Ends : {X K : Type 0} → (X → K) → (X → Type 0) → List X → Type 0
Ends key Q [] = Unit {0}
Ends {X} key Q (x ∷ xs) = (((y : X) → Contains xs y → key y ≢ key x) → Q x) × Ends key Q xs

-- where each has it, each last one has it
pub ends-each : {X K : Type 0} (key : X → K) (Q : X → Type 0) (xs : List X)
    → AllByRecursion Q xs → Ends key Q xs
ends-each key Q [] a = tt
ends-each key Q (x ∷ xs) a = (λ none. a.0, ends-each key Q xs a.1)

-- of a list before another one
pub ends-before : {X K : Type 0} (key : X → K) (Q : X → Type 0) (xs ys : List X)
    → AllByRecursion (λ x. ((y : X) → Contains ys y → key y ≢ key x) → Q x) xs → Ends key Q ys
    → Ends key Q (xs ++ ys)
ends-before key Q [] ys a e = e
ends-before {X} key Q (x ∷ xs) ys a e = (
  λ none. a.0 (λ y c. none y (Contains-append_right xs ys y c)),
  ends-before key Q xs ys a.1 e,
)

-- of a mapped list
pub ends-map : {X Y K : Type 0} (key : Y → K) (Q : Y → Type 0) (f : X → Y) (xs : List X)
    → Ends (λ x. key (f x)) (λ x. Q (f x)) xs → Ends key Q (map f xs)
ends-map key Q f [] e = tt
ends-map key Q f (x ∷ xs) e = (
  λ none. e.0 (λ y c. none (f y) (Contains-map f xs y c)),
  ends-map key Q f xs e.1,
)

-- and of the list that was mapped
pub ends-unmap : {X Y K : Type 0} (key : Y → K) (Q : Y → Type 0) (f : X → Y) (xs : List X)
    → Ends key Q (map f xs) → Ends (λ x. key (f x)) (λ x. Q (f x)) xs
ends-unmap key Q f [] e = tt
ends-unmap {X} {Y} {K} key Q f (x ∷ xs) e = (
  λ none. e.0 (λ y c. let r = Contains-unmap f xs y c in
      λ same. none r.0 r.1 (ap key r.2 ∙ same)),
  ends-unmap key Q f xs e.1,
)

-- with what follows from the property
pub ends-weaker : {X K : Type 0} (key : X → K) (P Q : X → Type 0) → ((x : X) → P x → Q x)
    → (xs : List X) → Ends key P xs → Ends key Q xs
ends-weaker key P Q f [] e = tt
ends-weaker key P Q f (x ∷ xs) e = (λ none. f x (e.0 none), ends-weaker key P Q f xs e.1)

-- of what a filter takes that takes all of a key or none
pub ends-filter : {X K : Type 0} (key : X → K) (Q : X → Type 0) (p : X → Bool)
    → ((x y : X) → key y ≡ key x → p y ≡ p x) → (xs : List X)
    → Ends key (λ x. p x ≡ true → Q x) xs → Ends key Q (filter p xs)
ends-filter key Q p alike [] e = tt
ends-filter {X} {K} key Q p alike (x ∷ xs) e = go (p x) refl (ends-filter key Q p alike xs e.1)
  where
    go : (b : Bool) → p x ≡ b → Ends key Q (filter p xs)
        → Ends key Q (cond b (x ∷ filter p xs) (filter p xs))
    go true is later = (
      λ none. e.0 (λ y c same.
          none y (filter-Contains p xs y c (alike x y same ∙ is)) same) is,
      later,
    )
    go false is later = later

-- of the rest of what a filter takes
ends-rest : {X K : Type 0} (key : X → K) (Q : X → Type 0) (p : X → Bool) (x : X) (xs : List X)
    → Ends key Q (filter p (x ∷ xs)) → Ends key Q (filter p xs)
ends-rest {X} {K} key Q p x xs e = go (p x) e
  where
    go : (b : Bool) → Ends key Q (cond b (x ∷ filter p xs) (filter p xs)) → Ends key Q (filter p xs)
    go true r = r.1
    go false r = r

-- of a list, where it is so of each of its parts
pub ends-parts : {X K : Type 0} (key : X → K) (Q : X → Type 0) (t : ℕ → X → Bool) (xs : List X)
    → AllByRecursion (λ x. (k : ℕ) × (k < 4) × (t k x ≡ true)) xs
    → ((k : ℕ) → k < 4 → Ends key Q (filter (t k) xs)) → Ends key Q xs
ends-parts key Q t [] a e = tt
ends-parts {X} {K} key Q t (x ∷ xs) a e = (
  λ none. first a.0.0 a.0.2 (e a.0.0 a.0.1) none,
  ends-parts key Q t xs a.1 (λ k lt. ends-rest key Q (t k) x xs (e k lt)),
)
  where
    first : (k : ℕ) → t k x ≡ true → Ends key Q (filter (t k) (x ∷ xs))
        → ((y : X) → Contains xs y → key y ≢ key x) → Q x
    first k is ends none =
        (subst (λ b. Ends key Q (cond b (x ∷ filter (t k) xs) (filter (t k) xs))) is ends).0
        (λ y c. none y (Contains-filter (t k) xs y c).0)

-- what holds of each item of each part holds of each item
pub each-parts : {X : Type 0} (P : X → Type 0) (t : ℕ → X → Bool) (xs : List X)
    → AllByRecursion (λ x. (k : ℕ) × (k < 4) × (t k x ≡ true)) xs
    → ((k : ℕ) → k < 4 → AllByRecursion P (filter (t k) xs)) → AllByRecursion P xs
each-parts P t [] a e = tt
each-parts {X} P t (x ∷ xs) a e = (
  (each_unfilter P (t a.0.0) (x ∷ xs) (e a.0.0 a.0.1)).0 a.0.2,
  each-parts P t xs a.1 (λ k lt. rest k (e k lt)),
)
  where
    rest : (k : ℕ) → AllByRecursion P (filter (t k) (x ∷ xs)) → AllByRecursion P (filter (t k) xs)
    rest k r = each_passing P (t k) xs (each_unfilter P (t k) (x ∷ xs) r).1

-- one of four tests takes it, and no other one
abbrev pub IsInOne : {X : Type 0} → (ℕ → X → Bool) → X → Type 0
IsInOne t x = cond (t 0 x) 1 0 + cond (t 1 x) 1 0 + cond (t 2 x) 1 0 + cond (t 3 x) 1 0 ≡ 1

-- the lengths of four filters
abbrev pub four_lengths : {X : Type 0} → (ℕ → X → Bool) → List X → ℕ
four_lengths t xs =
    length (filter (t 0) xs) + length (filter (t 1) xs) + length (filter (t 2) xs)
    + length (filter (t 3) xs)

-- how long a filter is with one more item
length-filter-cons : {X : Type 0} (p : X → Bool) (x : X) (xs : List X)
    → length (filter p (x ∷ xs)) ≡ cond (p x) 1 0 + length (filter p xs)
length-filter-cons {X} p x xs = go (p x)
  where
    go : (b : Bool) → length (cond b (x ∷ filter p xs) (filter p xs))
        ≡ cond b 1 0 + length (filter p xs)
    go true = omega arith
    go false = omega arith

-- the lengths of the parts add up
pub length-parts : {X : Type 0} (t : ℕ → X → Bool) (xs : List X) → AllByRecursion (IsInOne t) xs
    → four_lengths t xs ≡ length xs
length-parts t [] a = refl
length-parts {X} t (x ∷ xs) a =
    omega (
      arith,
      a.0,
      length-parts t xs a.1,
      length-filter-cons (t 0) x xs,
      length-filter-cons (t 1) x xs,
      length-filter-cons (t 2) x xs,
      length-filter-cons (t 3) x xs,
    )

-- a number below four is just one of four
pub in-one : (m : ℕ) → m < 4
    → cond (m == 0) 1 0 + cond (m == 1) 1 0 + cond (m == 2) 1 0 + cond (m == 3) 1 0 ≡ 1
in-one zero lt = refl
in-one (suc zero) lt = refl
in-one (suc (suc zero)) lt = refl
in-one (suc (suc (suc zero))) lt = refl
in-one (suc (suc (suc (suc m)))) lt = absurd (omega arith)
