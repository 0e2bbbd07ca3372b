-- How many writes route where.
use Rattle.std.proofs.Common.{◌≡◌, ℕ, zero, suc, ◌+◌, ◌<◌, ◌≤◌, ◌==◌, Bool, true, false, not, cond, List, [], ◌∷◌, length, refl, ap, ◌∙◌, arith, if◌then◌else◌}
use Rattle.std.specs.Prelude.{nat_lt}
use Rattle.std.proofs.lemmas.List.Sums.{sum_by-cons, sum_by-append}
use Rattle.std.proofs.lemmas.Bool.Decides.{nat_tests}
use Rattle.tuple_values.specs.Keys.{shard_of}
use Rattle.tuple_values.specs.declared.write.Write.{Write}
use Rattle.tuple_values.specs.declared.write.Write.TheVariants as write
use Rattle.shard_versions.specs.Fitness.{is_routed}
use Rattle.shard_versions.specs.Histories.{is_mark}
use Rattle.shard_versions.specs.declared.entry.Kind.{Kind}
use Rattle.shard_versions.specs.declared.entry.Kind.TheVariants.{Mark}
use Rattle.exchange_rules.specs.Steps.{kind_of, written_id, routed, closed, writes_in}
use Rattle.exchange_rules.specs.Rows.{length_below}

-- a write routes to the shard of its id
pub routed_is : (n s : ℕ) (w : Write)
    → is_routed n s (kind_of w) ≡ (shard_of n (written_id w) == s)
routed_is n s (write.Put doc) = refl
routed_is n s (write.Del id) = refl

-- one more where a test passes
one_of : (b : Bool) (k : Kind) (ks : List Kind)
    → length (if b then k ∷ ks else ks) ≡ cond b 1 0 + length ks
one_of true k ks = omega arith
one_of false k ks = omega arith

-- one more write
length-routed : (n s : ℕ) (w : Write) (ws : List Write)
    → length (routed n s (w ∷ ws))
    ≡ cond (shard_of n (written_id w) == s) 1 0 + length (routed n s ws)
length-routed n s w ws =
    one_of (is_routed n s (kind_of w)) (kind_of w) (routed n s ws)
    ∙ ap (λ b. cond b 1 0 + length (routed n s ws)) (routed_is n s w)

-- a number below the next is below this one or is it
next_shard : (h s : ℕ)
    → cond (nat_lt h (suc s)) 1 0 ≡ cond (nat_lt h s) 1 0 + cond (h == s) 1 0
next_shard h s = grind (arith, nat_tests)

-- one more write in the shares before a shard
below_push : (n s : ℕ) (w : Write) (ws : List Write)
    → length_below (λ x. routed n x (w ∷ ws)) s
    ≡ cond (nat_lt (shard_of n (written_id w)) s) 1 0 + length_below (λ x. routed n x ws) s
below_push n zero w ws = grind (arith, nat_tests)
below_push n (suc s) w ws =
    let a = below_push n s w ws in
    let b = length-routed n s w ws in
    let c = next_shard (shard_of n (written_id w)) s in
    omega (arith, a, b, c)

-- a test of a number below
all_below : (h n : ℕ) → h < n → ◌≡◌ {A = ℕ} (cond (nat_lt h n) 1 0) 1
all_below h n lt = grind (arith, nat_tests)

-- no write is in no share
none_below : (n s : ℕ) → length_below (λ x. routed n x []) s ≡ 0
none_below n zero = refl
none_below n (suc s) = let e = none_below n s in omega (arith, e)

-- each write is in one of the shares
pub length_below-routed : (n : ℕ) (ws : List Write) → 0 < n
    → length_below (λ s. routed n s ws) n ≡ length ws
length_below-routed n [] lt = none_below n n
length_below-routed n (w ∷ ws) lt =
    let a = below_push n n w ws in
    let h : shard_of n (written_id w) < n = omega arith in
    let b = all_below (shard_of n (written_id w)) n h in
    let c = length_below-routed n ws lt in
    omega (arith, a, b, c)

-- the shares of more shards have no fewer entries
pub length_below-le : (share : ℕ → List Kind) (s k : ℕ)
    → length_below share s ≤ length_below share (s + k)
length_below-le share s zero =
    let e : s + 0 ≡ s = omega arith in
    let f = ap (length_below share) e in
    omega (arith, f)
length_below-le share s (suc k) =
    let e : s + suc k ≡ suc (s + k) = omega arith in
    let f = ap (length_below share) e in
    let g = length_below-le share s k in
    omega (arith, f, g)

-- shares that agree below a shard have as many entries there
pub length_below-same : (a b : ℕ → List Kind) (s : ℕ) → ((x : ℕ) → x < s → a x ≡ b x)
    → length_below a s ≡ length_below b s
length_below-same a b zero e = refl
length_below-same a b (suc s) e =
    let f = length_below-same a b s (λ x lt. e x (omega arith)) in
    let g = ap length (e s (omega arith)) in
    omega (arith, f, g)

-- one more write among kinds
writes_in_cons : (k : Kind) (ks : List Kind)
    → writes_in (k ∷ ks) ≡ cond (not (is_mark k)) 1 0 + writes_in ks
writes_in_cons k ks = sum_by-cons (λ x. cond (not (is_mark x)) 1 0) k ks

-- a write is no Mark
kind_is_write : (w : Write) → is_mark (kind_of w) ≡ false
kind_is_write (write.Put doc) = refl
kind_is_write (write.Del id) = refl

-- one more where it is routed
counted : (b : Bool) (k : Kind) (ks : List Kind) → is_mark k ≡ false → writes_in ks ≡ length ks
    → writes_in (if b then k ∷ ks else ks) ≡ length (if b then k ∷ ks else ks)
counted false k ks m e = e
counted true k ks m e =
    writes_in_cons k ks ∙ (ap (λ b. cond (not b) 1 0 + writes_in ks) m ∙ omega (arith, e))

-- what routes to a shard are writes
pub writes_in-routed : (n s : ℕ) (ws : List Write)
    → writes_in (routed n s ws) ≡ length (routed n s ws)
writes_in-routed n s [] = refl
writes_in-routed n s (w ∷ ws) =
    counted (is_routed n s (kind_of w)) (kind_of w) (routed n s ws) (kind_is_write w)
    (writes_in-routed n s ws)

-- a Mark is no write
pub writes_in-closed : (commit : Bool) (ks : List Kind)
    → writes_in (closed commit ks) ≡ writes_in ks
writes_in-closed commit [] = refl
writes_in-closed false (k ∷ ks) = refl
writes_in-closed true (k ∷ ks) =
    sum_by-append (λ x. cond (not (is_mark x)) 1 0) (k ∷ ks) (Mark ∷ []) ∙ omega arith
