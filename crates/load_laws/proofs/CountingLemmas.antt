-- Lists of numbers in which none stands twice, their sums, and the numbers that texts write.
use Rattle.std.proofs.Common.{◌≡◌, ◌≢◌, ◌⊎◌, inl, inr, ℕ, zero, suc, ◌+◌, ◌<◌, ◌^◌, ◌==◌, Bool, true, false, cond, not, List, [], ◌∷◌, ◌++◌, length, get_or, filter, sum_by, Contains, decimal, refl, sym, ap, subst, ◌∙◌, arith, eqb-true, ne_eqb, eq-eqb}
use Rattle.std.specs.List.{AllByRecursion}
use Rattle.std.specs.Str.Parse.{digits_value}
use Rattle.std.proofs.lemmas.Fmt.{decimal_is_IsNumeral_wide}
use Rattle.std.proofs.lemmas.List.Elements.{Contains-push, Contains-push_cases, Contains-append_left}
use Rattle.std.proofs.lemmas.List.Sums.{sum_by-cons}
use Rattle.load_rules.specs.Documents.{below}

-- no number stands twice
abbrev pub AreApart : List ℕ → Type 0
AreApart [] = Unit {0}
AreApart (x ∷ xs) = AllByRecursion (λ y. y ≢ x) xs × AreApart xs

-- its first item
pub Contains-first : {X : Type 0} (x : X) (xs : List X) → Contains (x ∷ xs) x
Contains-first x xs = (0, omega arith, refl)

-- and what the rest contains
pub Contains-rest : {X : Type 0} (x y : X) (xs : List X) → Contains xs y → Contains (x ∷ xs) y
Contains-rest x y xs c = (suc c.0, omega (arith, c.1), c.2)

-- and nothing else
pub Contains-cases : {X : Type 0} (x y : X) (xs : List X) → Contains (x ∷ xs) y
    → (x ≡ y) ⊎ Contains xs y
Contains-cases {X} x y xs c = go c.0 c.1 c.2
  where
    go : (k : ℕ) → k < length (x ∷ xs) → get_or (x ∷ xs) k y ≡ y → (x ≡ y) ⊎ Contains xs y
    go zero lt is = inl is
    go (suc k) lt is = inr (k, omega arith, is)

-- no list without items contains one
pub Contains-none : {X : Type 0} (y : X) → Contains [] y → ⊥
Contains-none y c = absurd (omega (arith, c.1))

-- what holds of each item that a list contains holds of each item of it
pub each-contained : {X : Type 0} (P : X → Type 0) (xs : List X)
    → ((x : X) → Contains xs x → P x) → AllByRecursion P xs
each-contained P [] f = tt
each-contained P (x ∷ xs) f = (
  f x (Contains-first x xs),
  each-contained P xs (λ y c. f y (Contains-rest x y xs c)),
)

-- and the other way
pub contained-each : {X : Type 0} (P : X → Type 0) (xs : List X) (x : X)
    → AllByRecursion P xs → Contains xs x → P x
contained-each P [] x a c = absurd (Contains-none x c)
contained-each {X} P (y ∷ xs) x a c = go (Contains-cases y x xs c) (contained-each P xs x a.1)
  where
    go : (y ≡ x) ⊎ Contains xs x → (Contains xs x → P x) → P x
    go (inl is) more = subst P is a.0
    go (inr later) more = more later

-- a filter of a list contains what the list contains and the test takes
pub filter-Contains : {X : Type 0} (p : X → Bool) (xs : List X) (x : X) → Contains xs x
    → p x ≡ true → Contains (filter p xs) x
filter-Contains p [] x c t = absurd (Contains-none x c)
filter-Contains {X} p (y ∷ xs) x c t =
    go (p y) refl (Contains-cases y x xs c) (λ later. filter-Contains p xs x later t)
  where
    go : (b : Bool) → p y ≡ b → (y ≡ x) ⊎ Contains xs x
        → (Contains xs x → Contains (filter p xs) x)
        → Contains (cond b (y ∷ filter p xs) (filter p xs)) x
    go true is (inl e) more = subst (Contains (y ∷ filter p xs)) e (Contains-first y (filter p xs))
    go true is (inr later) more = Contains-rest y x (filter p xs) (more later)
    go false is (inl e) more = absurd (let k : true ≡ false = sym t ∙ (sym (ap p e) ∙ is) in cc)
    go false is (inr later) more = more later

-- and nothing else
pub Contains-filter : {X : Type 0} (p : X → Bool) (xs : List X) (x : X) → Contains (filter p xs) x
    → Contains xs x × (p x ≡ true)
Contains-filter p [] x c = absurd (Contains-none x c)
Contains-filter {X} p (y ∷ xs) x c =
    go (p y) refl c (λ d. let r = Contains-filter p xs x d in (Contains-rest y x xs r.0, r.1))
  where
    here : p y ≡ true → (y ≡ x) ⊎ Contains (filter p xs) x
        → (Contains (filter p xs) x → Contains (y ∷ xs) x × (p x ≡ true))
        → Contains (y ∷ xs) x × (p x ≡ true)
    here is (inl e) more = (subst (Contains (y ∷ xs)) e (Contains-first y xs), sym (ap p e) ∙ is)
    here is (inr d) more = more d

    go : (b : Bool) → p y ≡ b → Contains (cond b (y ∷ filter p xs) (filter p xs)) x
        → (Contains (filter p xs) x → Contains (y ∷ xs) x × (p x ≡ true))
        → Contains (y ∷ xs) x × (p x ≡ true)
    go true is d more = here is (Contains-cases y x (filter p xs) d) more
    go false is d more = more d

-- what holds of each item holds of each that a filter takes
pub each_filter : {X : Type 0} (P : X → Type 0) (p : X → Bool) (xs : List X)
    → AllByRecursion P xs → AllByRecursion P (filter p xs)
each_filter P p [] a = tt
each_filter P p (x ∷ xs) a = go (p x) (each_filter P p xs a.1)
  where
    go : (b : Bool) → AllByRecursion P (filter p xs)
        → AllByRecursion P (cond b (x ∷ filter p xs) (filter p xs))
    go true later = (a.0, later)
    go false later = later

-- a filter of one is one
pub apart-filter : (p : ℕ → Bool) (xs : List ℕ) → AreApart xs → AreApart (filter p xs)
apart-filter p [] a = tt
apart-filter p (x ∷ xs) a = go (p x) (apart-filter p xs a.1)
  where
    go : (b : Bool) → AreApart (filter p xs)
        → AreApart (cond b (x ∷ filter p xs) (filter p xs))
    go true later = (each_filter (λ y. y ≢ x) p xs a.0, later)
    go false later = later

-- with one more number, another one
pub apart-push : (xs : List ℕ) (n : ℕ) → AreApart xs → ((y : ℕ) → Contains xs y → y ≢ n)
    → AreApart (xs ++ n ∷ [])
apart-push [] n a other = (tt, tt)
apart-push (x ∷ xs) n a other = (
  each-contained (λ y. y ≢ x) (xs ++ n ∷ []) (λ y c. go y (Contains-push_cases xs n y c)),
  apart-push xs n a.1 (λ y c. other y (Contains-rest x y xs c)),
)
  where
    go : (y : ℕ) → Contains xs y ⊎ (n ≡ y) → y ≢ x
    go y (inl c) = contained-each (λ y. y ≢ x) xs y a.0 c
    go y (inr e) = λ is. other x (Contains-first x xs) (sym is ∙ sym e)

-- the numbers but one, where it isn't there
filter-absent : (x : ℕ) (xs : List ℕ) → AllByRecursion (λ y. y ≢ x) xs
    → filter (λ y. not (y == x)) xs ≡ xs
filter-absent x [] a = refl
filter-absent x (y ∷ xs) a = go (y == x) (ne_eqb y x a.0) (filter-absent x xs a.1)
  where
    rest : List ℕ
    rest = filter (λ z. not (z == x)) xs

    go : (b : Bool) → b ≡ false → rest ≡ xs → cond (not b) (y ∷ rest) rest ≡ y ∷ xs
    go true is later = absurd (cc)
    go false is later = ap (λ (r : List ℕ). y ∷ r) later

-- the sum over numbers is that over one of them and the others
sum-pull : (g : ℕ → ℕ) (x : ℕ) (xs : List ℕ) → AreApart xs → Contains xs x
    → sum_by g xs ≡ g x + sum_by g (filter (λ y. not (y == x)) xs)
sum-pull g x [] a c = absurd (Contains-none x c)
sum-pull g x (y ∷ xs) a c =
    go (y == x) refl (Contains-cases y x xs c) (sum-pull g x xs a.1)
  where
    rest : List ℕ
    rest = filter (λ z. not (z == x)) xs

    go : (b : Bool) → (y == x) ≡ b → (y ≡ x) ⊎ Contains xs x
        → (Contains xs x → sum_by g xs ≡ g x + sum_by g rest)
        → sum_by g (y ∷ xs) ≡ g x + sum_by g (cond (not b) (y ∷ rest) rest)
    go true is here more =
        let e : y ≡ x = eqb-true y x is in
        sum_by-cons g y xs
        ∙ ap (λ n. g n + sum_by g xs) e
        ∙ ap (λ l. g x + sum_by g l)
        (sym (filter-absent x xs (subst (λ n. AllByRecursion (λ z. z ≢ n) xs) e a.0)))
    go false is (inl e) more =
        absurd (let k : true ≡ false = sym (eq-eqb y x e) ∙ is in cc)
    go false is (inr later) more =
        omega (arith, sum_by-cons g y xs, sum_by-cons g y rest, more later)

-- lists without repetition that have the same numbers have the same sums
pub same-sum : (g : ℕ → ℕ) (xs ys : List ℕ) → AreApart xs → AreApart ys
    → ((i : ℕ) → Contains xs i → Contains ys i) → ((i : ℕ) → Contains ys i → Contains xs i)
    → sum_by g xs ≡ sum_by g ys
same-sum g [] [] a b to from = refl
same-sum g [] (y ∷ ys) a b to from =
    absurd (Contains-none y (from y (Contains-first y ys)))
same-sum g (x ∷ xs) ys a b to from =
    sum_by-cons g x xs
    ∙ ap (λ n. g x + n)
    (same-sum g xs (filter (λ y. not (y == x)) ys) a.1
    (apart-filter (λ y. not (y == x)) ys b)
    (λ i c. filter-Contains (λ y. not (y == x)) ys i (to i (Contains-rest x i xs c)) (other i c))
    (λ i c. into i (Contains-filter (λ y. not (y == x)) ys i c)))
    ∙ sym (sum-pull g x ys b (to x (Contains-first x xs)))
  where
    other : (i : ℕ) → Contains xs i → not (i == x) ≡ true
    other i c = ap not (ne_eqb i x (contained-each (λ y. y ≢ x) xs i a.0 c))

    into : (i : ℕ) → Contains ys i × (not (i == x) ≡ true) → Contains xs i
    into i r = go (Contains-cases x i xs (from i r.0))
      where
        go : (x ≡ i) ⊎ Contains xs i → Contains xs i
        go (inl e) =
            absurd (let k : false ≡ true = sym (ap not (eq-eqb i x (sym e))) ∙ r.1 in cc)
        go (inr c) = c

-- those below a number are below it
pub Contains-below : (n i : ℕ) → Contains (below n) i → i < n
unfolding below
Contains-below zero i c = absurd (Contains-none i c)
Contains-below (suc n) i c = go (Contains-push_cases (below n) n i c) (Contains-below n i)
  where
    go : Contains (below n) i ⊎ (n ≡ i) → (Contains (below n) i → i < n) → i < suc n
    go (inl later) less = omega (arith, less later)
    go (inr e) less = omega arith

-- and each that is is one of them
pub below-Contains : (n i : ℕ) → i < n → Contains (below n) i
unfolding below
below-Contains zero i lt = absurd (omega arith)
below-Contains (suc n) i lt = go (i == n) refl (below-Contains n i)
  where
    less : i ≢ n → i < n
    less other = omega arith

    go : (b : Bool) → (i == n) ≡ b → (i < n → Contains (below n) i)
        → Contains (below n ++ n ∷ []) i
    go true is more =
        subst (Contains (below n ++ n ∷ [])) (sym (eqb-true i n is)) (Contains-push (below n) n)
    go false is more =
        Contains-append_left (below n) (n ∷ []) i
        (more (less (λ e. let k : true ≡ false = sym (eq-eqb i n e) ∙ is in cc)))

-- none of them stands twice
pub below-apart : (n : ℕ) → AreApart (below n)
unfolding below
below-apart zero = tt
below-apart (suc n) =
    apart-push (below n) n (below-apart n)
    (λ y c is. absurd (omega (arith, Contains-below n y c, is)))

-- there are as many as the number says
pub length-below : (n : ℕ) → length (below n) ≡ n
unfolding below
length-below zero = refl
length-below (suc n) = go (below n) (length-below n)
  where
    more : (xs : List ℕ) → length (xs ++ n ∷ []) ≡ suc (length xs)
    more [] = refl
    more (x ∷ xs) = ap suc (more xs)

    go : (xs : List ℕ) → length xs ≡ n → length (xs ++ n ∷ []) ≡ suc n
    go xs is = more xs ∙ ap suc is

-- the digits of a number tell it
pub number-decimal : (i : ℕ) → i < 10 ^ 64 → digits_value 10 (decimal i) ≡ i
number-decimal i few = (decimal_is_IsNumeral_wide i few).1

-- so two numbers have two texts
pub decimal-one : (i j : ℕ) → i < 10 ^ 64 → j < 10 ^ 64 → decimal i ≡ decimal j → i ≡ j
decimal-one i j few less is =
    sym (number-decimal i few) ∙ ap (digits_value 10) is ∙ number-decimal j less
