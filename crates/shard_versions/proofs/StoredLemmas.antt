-- The slots at the places of the current documents hold just these.
use Rattle.std.proofs.Common.{◌≡◌, ℕ, suc, ◌+◌, ◌<◌, ◌&&◌, not, Bool, true, false, cond, List, [], ◌∷◌, ◌++◌, length, get_or, take, map, Option, Some, None, refl, sym, ap, subst, ◌∙◌, arith, append_assoc, length-append}
use Rattle.std.specs.Prelude.{IsSome, is_some, unwrap_or, option_map}
use Rattle.std.proofs.lemmas.List.{map-append, length-map}
use Rattle.std.proofs.Math.Seq.{get_or-append_seam, take-append_seam}
use Rattle.tuple_values.specs.Document.{Doc}
use Rattle.shard_segments.specs.declared.slot.Slot as segments
use Rattle.shard_versions.specs.Documents.{with_version}
use Rattle.shard_versions.specs.Histories.{History, Slot, slots, settled, committed, top, writes_id, kept, latest, current}
use Rattle.shard_versions.specs.Stored.{kept_slot, latest_places, stored, places_of, no_slot, pair_at, last_stored}
use Rattle.shard_versions.specs.Snapshots.{AreHeld}
use Rattle.shard_versions.proofs.VersionLemmas.{settled-begins, slots-grow}
use Rattle.shard_versions.proofs.SettledLemmas.{settled-take}
use Rattle.shard_versions.proofs.LogLemmas.{last_stored-kept}

-- the slot behind kept ones
kept-seam : (front ss : List Slot) (s : Slot) → get_or (map kept_slot (front ++ s ∷ ss)) (length front) no_slot ≡ kept_slot s
kept-seam front ss s =
    ap (λ r. get_or r (length front) no_slot) (map-append kept_slot front (s ∷ ss))
    ∙ (ap (λ n. get_or (map kept_slot front ++ kept_slot s ∷ map kept_slot ss) n no_slot) (sym (length-map front kept_slot))
    ∙ get_or-append_seam (map kept_slot front) (kept_slot s) (map kept_slot ss) no_slot)

-- what is read of a write of which it is known whether a later one replaces it
abbrev read_by : Slot → Option Doc → Bool → List (ℕ × Doc)
read_by s None replaced = []
read_by s (Some d) replaced = cond replaced [] ((s.version, with_version s.version d) ∷ [])

read_by-kept : (s : Slot) (left : Option Doc) (ss : List Slot) → read_by s left (writes_id s.id ss) ≡ kept s left ss
read_by-kept s None ss = refl
read_by-kept s (Some d) ss = refl

-- what the first of the places holds
first-pair : (slots : List segments.Slot) (s : Slot) (at : ℕ) (left : Option Doc) (replaced : Bool) (more : List ℕ) (rest : List (ℕ × Doc))
    → get_or slots at no_slot ≡ kept_slot s → s.left ≡ left → map (pair_at slots) more ≡ rest
    → map (pair_at slots) (cond (is_some left && not replaced) (at ∷ []) [] ++ more) ≡ read_by s left replaced ++ rest
first-pair slots s at None replaced more rest here is r = r
first-pair slots s at (Some d) true more rest here is r = r
first-pair slots s at (Some d) false more rest here is r =
    ap (λ p. p ∷ map (pair_at slots) more)
    (ap (λ (t : segments.Slot). (t.version, unwrap_or t.document [])) here
    ∙ ap (λ o. (s.version, unwrap_or (option_map (with_version s.version) o) [])) is)
    ∙ ap (λ q. (s.version, with_version s.version d) ∷ q) r

-- what the slots at the places hold are the latest documents
pub latest_places-pairs : (front ss : List Slot) (at : ℕ) → at ≡ length front
    → map (pair_at (map kept_slot (front ++ ss))) (latest_places at ss) ≡ latest ss
unfolding latest_places latest
latest_places-pairs front [] at e = refl
latest_places-pairs front (s ∷ ss) at e =
    first-pair (map kept_slot (front ++ s ∷ ss)) s at s.left (writes_id s.id ss) (latest_places (at + 1) ss) (latest ss)
    (ap (λ n. get_or (map kept_slot (front ++ s ∷ ss)) n no_slot) e ∙ kept-seam front ss s) refl
    (ap (λ r. map (pair_at (map kept_slot r)) (latest_places (at + 1) ss)) (sym (append_assoc front (s ∷ []) ss))
    ∙ latest_places-pairs (front ++ s ∷ []) ss (at + 1) (omega (arith, e, length-append front (s ∷ []))))
    ∙ ap (λ r. r ++ latest ss) (read_by-kept s s.left ss)

-- the first of the places is held
first-held : (held : List segments.Slot) (s : Slot) (at : ℕ) (left : Option Doc) (replaced : Bool) (more : List ℕ)
    → get_or held at no_slot ≡ kept_slot s → s.left ≡ left → at < length held → AreHeld held more
    → AreHeld held (cond (is_some left && not replaced) (at ∷ []) [] ++ more)
first-held held s at None replaced more here is lt r = r
first-held held s at (Some d) true more here is lt r = r
first-held held s at (Some d) false more here is lt r =
    let document : (get_or held at no_slot).document ≡ Some (with_version s.version d) =
    ap (λ (t : segments.Slot). t.document) here ∙ ap (option_map (with_version s.version)) is in
    ((lt, subst (λ o. IsSome o) (sym document) refl), r)

pub latest_places-held : (front ss : List Slot) (at : ℕ) → at ≡ length front
    → AreHeld (map kept_slot (front ++ ss)) (latest_places at ss)
unfolding latest_places
latest_places-held front [] at e = tt
latest_places-held front (s ∷ ss) at e =
    let all : length (map kept_slot (front ++ s ∷ ss)) ≡ length front + suc (length ss) =
    length-map (front ++ s ∷ ss) kept_slot ∙ length-append front (s ∷ ss) in
    first-held (map kept_slot (front ++ s ∷ ss)) s at s.left (writes_id s.id ss) (latest_places (at + 1) ss)
    (ap (λ n. get_or (map kept_slot (front ++ s ∷ ss)) n no_slot) e ∙ kept-seam front ss s) refl (omega (arith, e, all))
    (subst (λ r. AreHeld (map kept_slot r) (latest_places (at + 1) ss)) (append_assoc front (s ∷ []) ss)
    (latest_places-held (front ++ s ∷ []) ss (at + 1) (omega (arith, e, length-append front (s ∷ [])))))

-- the slots up to the last Mark and the places of the current ones among them
module _ (h : History) (slots_are : List segments.Slot) (places : List ℕ) (s : slots_are ≡ stored h) (p : places ≡ places_of h) where
  pub shown-documents : map (pair_at slots_are) places ≡ current h
  unfolding stored places_of current
  shown-documents =
      ap (λ r. map (pair_at r) places) s
      ∙ (ap (map (pair_at (map kept_slot (committed h)))) p ∙ latest_places-pairs [] (committed h) 0 refl)

  pub shown-held : AreHeld slots_are places
  unfolding stored places_of
  shown-held = rw (s, p) (latest_places-held [] (committed h) 0 refl)

  pub shown-top : last_stored 0 slots_are ≡ top h
  unfolding stored top
  shown-top = ap (last_stored 0) s ∙ last_stored-kept 0 (committed h)

-- the first so many slots of a history's writes are those up to the last Mark
pub stored-take : (h : History) (n : ℕ) → n ≡ length (slots (take (length (settled h)) h))
    → take n (map kept_slot (slots h)) ≡ stored h
unfolding stored committed
stored-take h n e =
    let b = settled-begins h in
    let g = slots-grow (settled h) b.0 in
    let all : slots h ≡ slots (settled h) ++ g.0 = ap slots b.1 ∙ g.1 in
    let size : n ≡ length (map kept_slot (slots (settled h))) =
    e ∙ (ap (λ r. length (slots r)) (settled-take h) ∙ sym (length-map (slots (settled h)) kept_slot)) in
    ap (λ r. take n (map kept_slot r)) all
    ∙ (ap (take n) (map-append kept_slot (slots (settled h)) g.0)
    ∙ (ap (λ k. take k (map kept_slot (slots (settled h)) ++ map kept_slot g.0)) size
    ∙ take-append_seam (map kept_slot (slots (settled h))) (map kept_slot g.0)))
