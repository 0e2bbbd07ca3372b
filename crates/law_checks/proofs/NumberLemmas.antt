-- The greatest numbers after one more was told.
use Rattle.std.proofs.Common.{◌≡◌, ℕ, ◌&&◌, ◌==◌, Bool, true, false, cond, max, Bor, Option, Some, None, refl, sym, ap, ◌∙◌, arith, bytes_eq}
use Rattle.std.specs.Ordering.{is_eq, ordering_then, nat_cmp}
use Rattle.std.specs.declared.cmp.Ordering.{Ordering}
use Rattle.std.specs.declared.cmp.Ordering.TheVariants.{Less, Equal, Greater}
use Rattle.std.specs.Prelude.{nat_lt}
use Rattle.std.proofs.lemmas.Bool.Decides.{nat_tests}
use Rattle.std.specs.Cmp.Lexicographic.{slice_cmp}
use Rattle.std.specs.BTreeMap.{Updates}
use Rattle.std.proofs.lemmas.Bool.{eqb-true}
use Rattle.std.proofs.lemmas.Map.Text.{is_eq-slice_cmp}
use Rattle.std.proofs.lemmas.Slice.Eq.{bytes_eq-Decides}
use Rattle.tuple_values.specs.Document.{ByteList}
use Rattle.shard_versions.specs.Indexes.{greater}
use Rattle.law_checks.specs.Numbers.{number_at, same_place}
use Rattle.law_checks.specs.declared.greatest.Greatest.{Greatest}

-- two comparisons come out as equal where both do
equal-both : (a b : Ordering) → is_eq (ordering_then a b) ≡ (is_eq a && is_eq b)
equal-both Less b = refl
equal-both Equal b = refl
equal-both Greater b = refl

-- numbers compare as equal where they are the same
equal-numbers : (m n : ℕ) → is_eq (nat_cmp m n) ≡ (m == n)
equal-numbers m n = go (nat_lt m n) refl
  where
    apart : nat_lt m n ≡ true → false ≡ (m == n)
    apart l = grind (arith, nat_tests)

    pick : (b : Bool) → is_eq (cond b Equal Greater) ≡ b
    pick true = refl
    pick false = refl

    go : (b : Bool) → nat_lt m n ≡ b → is_eq (cond b Less (cond (m == n) Equal Greater)) ≡ (m == n)
    go true l = apart l
    go false l = pick (m == n)

-- a key compares as equal where it is the same
equal-keys : (f s a b : ByteList) (t n : ℕ)
    → is_eq (ordering_then (ordering_then (slice_cmp nat_cmp f a) (slice_cmp nat_cmp s b)) (nat_cmp t n)) ≡ same_place f s t a b n
equal-keys f s a b t n =
    equal-both (ordering_then (slice_cmp nat_cmp f a) (slice_cmp nat_cmp s b)) (nat_cmp t n)
    ∙ (ap (λ x. x && is_eq (nat_cmp t n)) (equal-both (slice_cmp nat_cmp f a) (slice_cmp nat_cmp s b)
    ∙ (ap (λ x. x && is_eq (slice_cmp nat_cmp s b)) (is_eq-slice_cmp f a) ∙ ap (λ x. bytes_eq f a && x) (is_eq-slice_cmp s b)))
    ∙ ap (λ x. (bytes_eq f a && bytes_eq s b) && x) (equal-numbers t n))

-- the same key has the same number
same-number : (g : Greatest) (f s a b : ByteList) (t n : ℕ) → same_place f s t a b n ≡ true
    → number_at g f s t ≡ number_at g a b n
same-number g f s a b t n e = go (bytes_eq f a) (bytes_eq s b) (t == n) refl refl refl e
  where
    go : (x y z : Bool) → bytes_eq f a ≡ x → bytes_eq s b ≡ y → (t == n) ≡ z → ((x && y) && z) ≡ true
        → number_at g f s t ≡ number_at g a b n
    go false y z p q r e = absurd (cc)
    go true false z p q r e = absurd (cc)
    go true true false p q r e = absurd (cc)
    go true true true p q r e =
        ap (λ x. number_at g x s t) ((bytes_eq-Decides f a).0 p) ∙ (ap (λ x. number_at g a x t) ((bytes_eq-Decides s b).0 q)
        ∙ ap (λ x. number_at g a b x) (eqb-true t n r))

-- the numbers after one more was told
pub raised : (g h : Greatest) (f s : Bor ByteList) (t v w : ℕ)
    → Updates (λ x y. ordering_then (ordering_then (slice_cmp nat_cmp x.0.now y.0.now)
    (slice_cmp nat_cmp x.1.now y.1.now)) (nat_cmp x.2 y.2)) g.numbers h.numbers (f, s, t) (Some w)
    → Some w ≡ greater v (number_at g f.now s.now t) → (a b : ByteList) (n : ℕ)
    → number_at h a b n ≡ cond (same_place f.now s.now t a b n) (greater v (number_at g a b n)) (number_at g a b n)
raised g h f s t v w u is a b n =
    u.0 (record { ref_ptr = (0, 0); now = a }, record { ref_ptr = (0, 0); now = b }, n)
    ∙ (ap (λ e. cond e (Some w) (number_at g a b n)) (equal-keys f.now s.now a b t n) ∙ go (same_place f.now s.now t a b n) refl)
  where
    go : (e : Bool) → same_place f.now s.now t a b n ≡ e
        → cond e (Some w) (number_at g a b n) ≡ cond e (greater v (number_at g a b n)) (number_at g a b n)
    go false same = refl
    go true same = is ∙ ap (greater v) (same-number g f.now s.now a b t n same)

-- what is told first is the greatest
pub greater-first : (v w : ℕ) (o : Option ℕ) → o ≡ None → w ≡ v → Some w ≡ greater v o
greater-first v w o e f = ap Some f ∙ sym (ap (greater v) e)

-- else it is the greater one
pub greater-more : (v w x : ℕ) (o : Option ℕ) → o ≡ Some x → w ≡ max x v → Some w ≡ greater v o
greater-more v w x o e f = ap Some (let h : w ≡ max v x = omega arith in h) ∙ sym (ap (greater v) e)
