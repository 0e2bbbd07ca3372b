-- Places in lists, and functions changed at one place.
use Rattle.std.proofs.Common.{ℕ, zero, suc, ◌≡◌, ◌≢◌, ◌⊎◌, ◌+◌, ◌<◌, ◌≤◌, List, [], ◌∷◌, ◌++◌, length, get_or, true, sym, refl, subst, ⊎_elim, inl, inr, arith, Option, Some, None}
use Rattle.std.specs.Prelude.{All, Contains, is_some}
use mathlib.Core.Option.{some, some-ne-none, some-injective}
use native.Mathlib.Decide.{ℕ_discrete}
use lib.ListN.{get_elem?}
use Rattle.atomic_table.proofs.Lists.{at_index}

abbrev pick : {A : Type 0} {P : Type 0} → Dec P → A → A → A
pick (yes _) a b = a
pick (no _) a b = b

-- f, but value at place
pub put : (ℕ → ℕ) → ℕ → ℕ → ℕ → ℕ
put f place value other = pick (ℕ_discrete other place) value (f other)

pub put_here : (f : ℕ → ℕ) (place value : ℕ) → put f place value place ≡ value
unfolding put
put_here f place value = go (ℕ_discrete place place)
  where
    go : (d : Dec (place ≡ place)) → pick d value (f place) ≡ value
    go (yes _) = refl
    go (no n) = absurd (n refl)

pub put_else : (f : ℕ → ℕ) (place value other : ℕ) → other ≢ place
    → put f place value other ≡ f other
unfolding put
put_else f place value other apart = go (ℕ_discrete other place)
  where
    go : (d : Dec (other ≡ place)) → pick d value (f other) ≡ f other
    go (yes e) = absurd (apart e)
    go (no _) = refl

-- f, but what goes to `from` goes to `to`
pub sends : ℕ → ℕ → (ℕ → ℕ) → ℕ → ℕ
sends to from f m = pick (ℕ_discrete (f m) from) to (f m)

pub sends_here : (to from : ℕ) (f : ℕ → ℕ) (m : ℕ) → f m ≡ from → sends to from f m ≡ to
unfolding sends
sends_here to from f m e = go (ℕ_discrete (f m) from)
  where
    go : (d : Dec (f m ≡ from)) → pick d to (f m) ≡ to
    go (yes _) = refl
    go (no n) = absurd (n e)

pub sends_else : (to from : ℕ) (f : ℕ → ℕ) (m : ℕ) → f m ≢ from → sends to from f m ≡ f m
unfolding sends
sends_else to from f m apart = go (ℕ_discrete (f m) from)
  where
    go : (d : Dec (f m ≡ from)) → pick d to (f m) ≡ f m
    go (yes e) = absurd (apart e)
    go (no _) = refl

module _ {X : Type 0} where
  pub inside : (l : List X) (i : ℕ) (x : X) → get_elem? l i ≡ some x → i < length l
  inside [] i x e = absurd (some-ne-none x (sym e))
  inside (y ∷ ys) zero x e = omega arith
  inside (y ∷ ys) (suc i) x e = let t = inside ys i x e in omega arith

  pub past_end : (l : List X) (i : ℕ) (x : X) → length l ≤ i → get_elem? l i ≡ some x → ⊥
  past_end l i x past e = let t = inside l i x e in omega arith

  pub at_end : (l : List X) (x : X) → get_elem? (l ++ x ∷ []) (length l) ≡ some x
  at_end [] x = refl
  at_end (y ∷ ys) x = at_end ys x

  -- the one element of a list
  pub only : (k x : X) (i : ℕ) → get_elem? (k ∷ []) i ≡ some x → (i ≡ 0) × (k ≡ x)
  only k x zero e = (refl, some-injective k x e)
  only k x (suc i) e = absurd (some-ne-none x (sym e))

  -- an element of two lists in a row stands in the one or in the other
  pub split_at : (xs ys : List X) (p : ℕ) (e : X) → get_elem? (xs ++ ys) p ≡ some e
      → ((p < length xs) × (get_elem? xs p ≡ some e))
      ⊎ ((q : ℕ) × (q + length xs ≡ p) × (get_elem? ys q ≡ some e))
  split_at [] ys p e is = inr (p, omega arith, is)
  split_at (x ∷ xs) ys zero e is = inl (omega arith, is)
  split_at (x ∷ xs) ys (suc p) e is = ⊎_elim
      (λ (t : (p < length xs) × (get_elem? xs p ≡ some e)).
      let t₀ = t.0 in inl (omega arith, t.1))
      (λ (t : (q : ℕ) × (q + length xs ≡ p) × (get_elem? ys q ≡ some e)).
      let t₁ = t.1 in inr (t.0, omega arith, t.2))
      (split_at xs ys p e is)

  -- an element of the second list stands so far behind
  pub behind : (xs ys : List X) (q : ℕ) (e : X) → get_elem? ys q ≡ some e
      → get_elem? (xs ++ ys) (length xs + q) ≡ some e
  behind [] ys q e is = subst (λ (n : ℕ). get_elem? ys n ≡ some e) (omega arith) is
  behind (x ∷ xs) ys q e is =
      let P : ℕ → Type 0 = λ n. get_elem? (x ∷ (xs ++ ys)) n ≡ some e in
      let same : suc (length xs + q) ≡ suc (length xs) + q = omega arith in
      subst P same (behind xs ys q e is)

  -- an element has a place
  pub place_of : (xs : List X) (x : X) → Contains xs x → (i : ℕ) × (get_elem? xs i ≡ some x)
  place_of xs x found = (found.0, at_index xs found.0 x found.1 (sym found.2))

  -- the element at a place, as `slice_index_or` reads it
  pub read_at : (l : List X) (i : ℕ) (x d : X) → get_elem? l i ≡ some x → get_or l i d ≡ x
  read_at [] i x d e = absurd (some-ne-none x (sym e))
  read_at (y ∷ ys) zero x d e = some-injective y x e
  read_at (y ∷ ys) (suc i) x d e = read_at ys i x d e

  -- an element at a place is one of the list's
  pub found_at : (l : List X) (i : ℕ) (x : X) → get_elem? l i ≡ some x → Contains l x
  found_at l i x e = (i, inside l i x e, read_at l i x x e)

  -- what is true of each element is true of the element at a place
  pub each_at : (P : X → Type 0) (xs : List X) (i : ℕ) (x : X) → All P xs
      → get_elem? xs i ≡ some x → P x
  each_at P xs i x each e = subst P (read_at xs i x x e) (each i x (inside xs i x e))

  -- the value of the slot that was taken last, or d
  abbrev pub slot_or : X → List (ℕ × X) → X
  slot_or d [] = d
  slot_or d (x ∷ xs) = x.1

  pub some_is : (x y : X) → Some x ≡ Some y → x ≡ y
  some_is x y e = cc

  -- a value that is there
  pub value_of : (o : Option X) → is_some o ≡ true → (x : X) × (o ≡ Some x)
  value_of None e = absurd (cc)
  value_of (Some x) e = (x, refl)

  -- the element at a place, whatever `slice_index_or` gives past the end
  pub at_place : (l : List X) (i : ℕ) (d : X) → i < length l → get_elem? l i ≡ some (get_or l i d)
  at_place [] i d low = absurd (omega arith)
  at_place (x ∷ xs) zero d low = refl
  at_place (x ∷ xs) (suc i) d low = at_place xs i d (omega arith)
