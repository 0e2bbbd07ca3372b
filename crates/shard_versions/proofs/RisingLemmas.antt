-- The versions of current documents rise.
use Rattle.std.proofs.Common.{◌≡◌, ℕ, zero, suc, ◌+◌, ◌<◌, ◌≤◌, Bool, true, false, cond, List, []}
use Rattle.std.proofs.Common.{◌∷◌, ◌++◌, length, get_or, drop, map, filter, Option, Some, None}
use Rattle.std.proofs.Common.{refl, sym, ap, subst, ◌∙◌, arith, lt-ltb}
use Rattle.std.proofs.lemmas.Bool.Decides.{nat_tests}
use Rattle.std.specs.Prelude.{nat_lt}
use Rattle.tuple_values.specs.Document.{Doc}
use Rattle.shard_versions.specs.Documents.{with_version}
use Rattle.shard_versions.specs.Histories.{History, Slot, slots, slots_after, settled, committed}
use Rattle.shard_versions.specs.Histories.{Ascend, writes_id, kept, latest, current}
use Rattle.shard_versions.specs.Snapshots.{VersionsRise}
use Rattle.shard_versions.proofs.VersionLemmas.{slots_after-ascend}

-- what rises from a version rises from a lower one
rises-above : (last version : ℕ) (ds : List (ℕ × Doc)) → last < version
    → VersionsRise version ds → VersionsRise last ds
rises-above last version [] lt rise = tt
rises-above last version (d ∷ ds) lt rise = (omega (arith, rise.0), rise.1)

-- the versions of the latest documents of rising writes rise
latest-rises : (last : ℕ) (ss : List Slot) → Ascend last ss → VersionsRise last (latest ss)
unfolding latest
latest-rises last [] a = tt
latest-rises last (s ∷ ss) a = go s.left (writes_id s.id ss) refl (latest-rises s.version ss a.1)
  where
    go : (left : Option Doc) (b : Bool) → writes_id s.id ss ≡ b
        → VersionsRise s.version (latest ss) → VersionsRise last (kept s left ss ++ latest ss)
    go None b is later = rises-above last s.version (latest ss) a.0 later
    go (Some d) true is later = rw is (rises-above last s.version (latest ss) a.0 later)
    go (Some d) false is later = rw is ((a.0, later))

-- those of the current documents rise
pub current-rises : (h : History) → VersionsRise 0 (current h)
unfolding current committed slots
current-rises h = latest-rises 0 (slots_after 0 (settled h)) (slots_after-ascend 0 (settled h))

-- each is above that from which they rise
rises-from : (last : ℕ) (ds : List (ℕ × Doc)) (k : ℕ) (d : ℕ × Doc) → VersionsRise last ds
    → k < length ds → last < (get_or ds k d).0
rises-from last [] k d rise lt = absurd (omega arith)
rises-from last (e ∷ ds) zero d rise lt = rise.0
rises-from last (e ∷ ds) (suc k) d rise lt =
    omega (arith, rise.0, rises-from e.0 ds k d rise.1 (omega arith))

-- and none is above a later one
pub rises-order : (last : ℕ) (ds : List (ℕ × Doc)) (j k : ℕ) (d : ℕ × Doc) → VersionsRise last ds
    → j ≤ k → k < length ds → (get_or ds j d).0 ≤ (get_or ds k d).0
rises-order last [] j k d rise le lt = absurd (omega arith)
rises-order last (e ∷ ds) zero zero d rise le lt = omega arith
rises-order last (e ∷ ds) zero (suc k) d rise le lt =
    omega (arith, rises-from e.0 ds k d rise.1 (omega arith))
rises-order last (e ∷ ds) (suc j) zero d rise le lt = absurd (omega arith)
rises-order last (e ∷ ds) (suc j) (suc k) d rise le lt =
    rises-order e.0 ds j k d rise.1 (omega arith) (omega arith)

-- a number that isn't above another
ltb-below : (n low : ℕ) → n ≤ low → nat_lt low n ≡ false
ltb-below n low le = grind (arith, nat_tests)

-- the documents above a version are those from a place on, where just those before it aren't
pub above-from : (low n : ℕ) (ds : List (ℕ × Doc)) (d : ℕ × Doc) → n ≤ length ds
    → ((k : ℕ) → k < n → (get_or ds k d).0 ≤ low)
    → ((k : ℕ) → n ≤ k → k < length ds → low < (get_or ds k d).0)
    → filter (λ (p : ℕ × Doc). nat_lt low p.0) ds ≡ drop n ds
above-from low zero [] d within below above = refl
above-from low zero (e ∷ ds) d within below above =
    ap (λ b. cond b (e ∷ filter (λ (p : ℕ × Doc). nat_lt low p.0) ds)
    (filter (λ (p : ℕ × Doc). nat_lt low p.0) ds))
    (lt-ltb low e.0 (above 0 (omega arith) (omega arith)))
    ∙ ap (λ (r : List (ℕ × Doc)). e ∷ r)
    (above-from low zero ds d (omega arith) (λ k lt. absurd (omega (arith, lt)))
    (λ k le lt. above (suc k) (omega arith) (omega (arith, lt))))
above-from low (suc n) [] d within below above = absurd (omega arith)
above-from low (suc n) (e ∷ ds) d within below above =
    ap (λ b. cond b (e ∷ filter (λ (p : ℕ × Doc). nat_lt low p.0) ds)
    (filter (λ (p : ℕ × Doc). nat_lt low p.0) ds))
    (ltb-below e.0 low (below 0 (omega arith)))
    ∙ above-from low n ds d (omega arith) (λ k lt. below (suc k) (omega (arith, lt)))
    (λ k le lt. above (suc k) (omega (arith, le)) (omega (arith, lt)))
