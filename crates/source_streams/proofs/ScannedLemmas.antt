-- Which slots are found by the places of those that meet a test.
use Rattle.std.proofs.Common.{◌≡◌, ◌≢◌, ℕ, zero, suc, ◌+◌, ◌-◌, ◌<◌, ◌≤◌, Bool, true, false, List, [], ◌∷◌, ◌++◌, length, get_or, take, drop, sym, refl, ap, ◌∙◌, arith, cond, append_assoc, subst, ⊎_elim}
use Rattle.std.specs.Prelude.{slice_index}
use Rattle.std.proofs.lemmas.Bool.{cases_lt}
use Rattle.std.proofs.lemmas.List.{take-append-drop, at_drop_more, length-take-le, length-append, get_or_append_left, get_or-append-add}
use Rattle.std.proofs.Math.Seq.{get_or-append_seam}
use Rattle.shard_segments.specs.Scans.{places_where}
use Rattle.source_streams.specs.Wants.{IsFirstFrom}

module _ {X : Type 0} (test : X → Bool) where
  -- the places in a longer list
  places_where-append : (at : ℕ) (xs ys : List X)
      → places_where test at (xs ++ ys)
      ≡ places_where test at xs ++ places_where test (at + length xs) ys
  places_where-append at [] ys =
      ap (λ n. places_where test n ys) (let e : at ≡ at + 0 = omega arith in e)
  places_where-append at (x ∷ xs) ys =
      ap (λ r. cond (test x) (at ∷ []) [] ++ r)
      (places_where-append (at + 1) xs ys
      ∙ ap (λ n. places_where test (at + 1) xs ++ places_where test n ys)
      (let e : at + 1 + length xs ≡ at + suc (length xs) = omega arith in e))
      ∙ sym (append_assoc (cond (test x) (at ∷ []) []) (places_where test (at + 1) xs)
      (places_where test (at + suc (length xs)) ys))

  -- each lies among those of the list
  places_within : (at : ℕ) (xs : List X) (i d : ℕ) → i < length (places_where test at xs)
      → (at ≤ get_or (places_where test at xs) i d)
      × (get_or (places_where test at xs) i d < at + length xs)
  places_within at [] i d lt = absurd (omega arith)
  places_within at (x ∷ xs) i d lt =
      by_test (test x) (places_where test (at + 1) xs) (λ i h. places_within (at + 1) xs i d h) i lt
    where
      by_test : (b : Bool) (rest : List ℕ)
          → ((i : ℕ) → i < length rest
          → (at + 1 ≤ get_or rest i d) × (get_or rest i d < at + 1 + length xs)) → (i : ℕ)
          → i < length (cond b (at ∷ []) [] ++ rest)
          → (at ≤ get_or (cond b (at ∷ []) [] ++ rest) i d)
          × (get_or (cond b (at ∷ []) [] ++ rest) i d < at + suc (length xs))
      by_test true rest more zero lt = (omega arith, omega arith)
      by_test true rest more (suc i) lt =
          let next = more i (omega arith) in
          (omega (arith, next.0), omega (arith, next.1))
      by_test false rest more i lt =
          let next = more i lt in
          (omega (arith, next.0), omega (arith, next.1))

module _ {X : Type 0} (test : X → Bool) (xs : List X) (k : ℕ) (x : X) (inside : k < length xs)
    (is : (d : X) → get_or xs k d ≡ x) where
  abbrev lows : List ℕ
  lows = places_where test 0 (take k xs)

  abbrev highs : List ℕ
  highs = places_where test (k + 1) (drop (k + 1) xs)

  -- the places are those before it, its own where it meets the test, and those behind it
  around : places_where test 0 xs ≡ lows ++ (cond (test x) (k ∷ []) [] ++ highs)
  around =
      let so : xs ≡ take k xs ++ x ∷ drop (k + 1) xs =
      sym (take-append-drop k xs)
      ∙ at_drop_more (λ r. take k xs ++ r) xs k x inside
      ∙ ap (λ y. take k xs ++ y ∷ drop (k + 1) xs) (is x) in
      let long : 0 + length (take k xs) ≡ k = omega (arith, length-take-le k xs (omega arith)) in
      ap (places_where test 0) so
      ∙ places_where-append test 0 (take k xs) (x ∷ drop (k + 1) xs)
      ∙ ap (λ n. lows ++ places_where test n (x ∷ drop (k + 1) xs)) long

  low : (i d : ℕ) → i < length lows → get_or lows i d < k
  low i d lt =
      let within = places_within test 0 (take k xs) i d lt in
      let short = length-take-le k xs (omega arith) in
      omega (arith, within.1, short)

  high : (i d : ℕ) → i < length highs → k < get_or highs i d
  high i d lt =
      let within = places_within test (k + 1) (drop (k + 1) xs) i d lt in
      omega (arith, within.0)

  module _ (passes : test x ≡ true) where
    found : places_where test 0 xs ≡ lows ++ k ∷ highs
    found = around ∙ ap (λ b. lows ++ (cond b (k ∷ []) [] ++ highs)) passes

    before : (j : ℕ) → j < length lows → get_or (places_where test 0 xs) j 0 < k
    before j lt =
        subst (λ n. n < k)
        (sym (ap (λ r. get_or r j 0) found ∙ get_or_append_left lows (k ∷ highs) 0 j lt))
        (low j 0 lt)

    from_it : (m : ℕ) → m < suc (length highs) → k ≤ get_or (k ∷ highs) m 0
    from_it zero lt = omega arith
    from_it (suc m) lt = let more = high m 0 (omega arith) in omega (arith, more)

    behind : (j : ℕ) → length lows ≤ j → j < length (places_where test 0 xs)
        → k ≤ get_or (places_where test 0 xs) j 0
    behind j le lt =
        let m = j - length lows in
        let whole : length lows + m ≡ j = omega (arith, le) in
        let long : length (places_where test 0 xs) ≡ length lows + suc (length highs) =
        ap length found ∙ length-append lows (k ∷ highs) in
        let few : m < suc (length highs) = omega (arith, lt, long, whole) in
        subst (λ n. k ≤ n)
        (sym (ap (λ r. get_or r j 0) found ∙ ap (λ i. get_or (lows ++ k ∷ highs) i 0) (sym whole)
        ∙ get_or-append-add lows (k ∷ highs) m 0))
        (from_it m few)

    -- it is found where the first place stands that is no less
    pub is_found : (at : ℕ) → IsFirstFrom (places_where test 0 xs) k at
        → (at < length (places_where test 0 xs)) × (slice_index (places_where test 0 xs) at ≡ k)
    is_found at first = ⊎_elim
        (λ less. absurd (
        let it = before at less in
        let no_less = first.there (omega (arith, less, long)) in
        omega (arith, it, no_less)))
        (λ le. ⊎_elim
        (λ more. absurd (
        let j = at - 1 in
        let next : j + 1 ≡ at = omega (arith, more) in
        let it = first.before j next in
        let no_less = behind j (omega (arith, more, next)) (omega (arith, next, first.within)) in
        omega (arith, it, no_less)))
        (λ ge.
        let here : at ≡ length lows = omega (arith, le, ge) in
        let there : at < length (places_where test 0 xs) = omega (arith, here, long) in (
          there,
          ap (slice_index (places_where test 0 xs)) here
              ∙ ap (λ r. get_or r (length lows) 0) found
              ∙ get_or-append_seam lows k highs 0,
        ))
        (cases_lt (length lows) at))
        (cases_lt at (length lows))
      where
        long : length (places_where test 0 xs) ≡ length lows + suc (length highs)
        long = ap length found ∙ length-append lows (k ∷ highs)

  module _ (fails : test x ≡ false) where
    missed : places_where test 0 xs ≡ lows ++ highs
    missed = around ∙ ap (λ b. lows ++ (cond b (k ∷ []) [] ++ highs)) fails

    -- and nowhere where it doesn't
    pub is_missed : (at : ℕ) → at < length (places_where test 0 xs)
        → slice_index (places_where test 0 xs) at ≢ k
    is_missed at lt e = ⊎_elim
        (λ less.
        let is : get_or (places_where test 0 xs) at 0 ≡ get_or lows at 0 =
        ap (λ r. get_or r at 0) missed ∙ get_or_append_left lows highs 0 at less in
        let it = low at 0 less in
        omega (arith, is, it, e))
        (λ le.
        let m = at - length lows in
        let whole : length lows + m ≡ at = omega (arith, le) in
        let long : length (places_where test 0 xs) ≡ length lows + length highs =
        ap length missed ∙ length-append lows highs in
        let is : get_or (places_where test 0 xs) at 0 ≡ get_or highs m 0 =
        ap (λ r. get_or r at 0) missed ∙ ap (λ i. get_or (lows ++ highs) i 0) (sym whole)
        ∙ get_or-append-add lows highs m 0 in
        let it = high m 0 (omega (arith, lt, long, whole)) in
        omega (arith, is, it, e))
        (cases_lt at (length lows))

  -- so it meets the test where a place is its own
  pub passes_there : (at : ℕ) → at < length (places_where test 0 xs)
      → slice_index (places_where test 0 xs) at ≡ k → test x ≡ true
  passes_there at lt e = by_test (test x) refl
    where
      by_test : (b : Bool) → test x ≡ b → test x ≡ true
      by_test true is_so = is_so
      by_test false is_so = absurd (is_missed is_so at lt e)

  -- and fails it where the first place that is no less isn't its own
  pub fails_there : (at : ℕ) → IsFirstFrom (places_where test 0 xs) k at
      → (at < length (places_where test 0 xs)
      → slice_index (places_where test 0 xs) at ≡ k → ⊥) → test x ≡ false
  fails_there at first not = by_test (test x) refl
    where
      by_test : (b : Bool) → test x ≡ b → test x ≡ false
      by_test true is_so =
          let found_so = is_found is_so at first in absurd (not found_so.0 found_so.1)
      by_test false is_so = is_so
