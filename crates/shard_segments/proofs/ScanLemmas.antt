-- The places of what meets a test, of a range of places by a test of each.
use Rattle.std.proofs.Common.{◌≡◌, ℕ, suc, ◌+◌, Bool, true, false, List, [], ◌∷◌, ◌++◌, length, get_or, sym, refl, ap, ◌∙◌, arith, cond, subst}
use Rattle.std.specs.Borrow.{Bor}
use Rattle.std.specs.List.{AllZip, range_with_len}
use Rattle.rayon.specs.Lists.{filter_by_mask}
use Rattle.shard_segments.specs.Scans.{places_where}

module _ {X : Type 0} (p : X → Bool) (all : List X) where
  -- that the answer at a place is the test of what stands there
  abbrev pub Answers : ℕ → Bool → Type 0
  Answers k b = (r : Bor ℕ) × (r.now ≡ k) × ((d : X) → b ≡ p (get_or all r.now d))

  -- the places whose answer is true, of those from one on, are those of what meets the test there
  pub places_by_mask : (at : ℕ) (xs : List X)
      → ((j : ℕ) (d : X) → get_or all (at + j) d ≡ get_or xs j d) → (bs : List Bool)
      → AllZip Answers (range_with_len at (length xs)) bs
      → filter_by_mask (range_with_len at (length xs)) bs ≡ places_where p at xs
  places_by_mask at [] same [] h = refl
  places_by_mask at [] same (b ∷ bs) h = absurd h
  places_by_mask at (x ∷ xs) same [] h = absurd h
  places_by_mask at (x ∷ xs) same (b ∷ bs) h =
      let here : h.0.0.now ≡ at + 0 = omega (arith, h.0.1) in
      let is = h.0.2 x ∙ ap (λ k. p (get_or all k x)) here ∙ ap p (same 0 x) in
      let next = places_by_mask (at + 1) xs
      (λ j d.
      let e : at + 1 + j ≡ at + suc j = omega arith in
      ap (λ k. get_or all k d) e ∙ same (suc j) d) bs h.1 in
      by_answer b (p x) is next
    where
      by_answer : (b c : Bool) → b ≡ c
          → filter_by_mask (range_with_len (at + 1) (length xs)) bs ≡ places_where p (at + 1) xs
          → filter_by_mask (at ∷ range_with_len (at + 1) (length xs)) (b ∷ bs)
          ≡ cond c (at ∷ []) [] ++ places_where p (at + 1) xs
      by_answer true c e rest = rw (sym e) (ap (λ r. at ∷ r) rest)
      by_answer false c e rest = rw (sym e) rest

  -- those of all
  pub found_in : (places : List ℕ) (bs : List Bool) → places ≡ range_with_len 0 (length all)
      → AllZip Answers places bs → filter_by_mask places bs ≡ places_where p 0 all
  found_in places bs whole answers =
      ap (λ r. filter_by_mask r bs) whole
      ∙ places_by_mask 0 all (λ j d. ap (λ k. get_or all k d) (let e : 0 + j ≡ j = omega arith in e)) bs
      (subst (λ r. AllZip Answers r bs) whole answers)
