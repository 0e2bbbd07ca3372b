use Rattle.std.proofs.Common.{◌≡◌, ◌<◌, ℕ, [], Some, length, map, get_or, sym, ap, subst, ◌∙◌, arith}
use Rattle.std.proofs.lemmas.List.{map-append}
use Rattle.std.specs.Prelude.{unwrap_or, slice_index}
use Rattle.tuple_values.specs.Document.{Doc}
use Rattle.shard_segments.specs.declared.slot.Slot.{Slot}
use Rattle.shard_segments.specs.Scans.{places_where}
use Rattle.source_streams.specs.Wants.{is_wanted, is_wanted_slot, IsFirstFrom}
use Rattle.source_streams.proofs.FoundLemmas.{found_more, found_less}
use Rattle.source_streams.proofs.ScannedLemmas.{passes_there, fails_there}
use Rattle.source_streams.proofs.scanned.add_scanned.Goals as goal
use Rattle.source_streams.proofs.scanned.add_scanned.Goals.{then-at-places+then-places-at+in_ok-of+in_ok-push, else-at-places, else-at-places-via-then-at-places+else-places-at, else-at-places-via-else-at-places}

pub loop-k-preserved : goal.loop-k-preserved
loop-k-preserved g c =
    let wanted = c.args.wanted.now in
    let test = is_wanted wanted.q.now.clauses wanted.fl.now wanted.keys.now wanted.part in
    let of_slot = is_wanted_slot wanted.q.now.clauses wanted.fl.now wanted.keys.now wanted.part in
    let slots = c.args.snapshot.now.slots in
    let docs = c.args.snapshot.now.documents in
    let before = map g.K.Lends.doc c.loop-k.found.items in
    let k = c.loop-k.k in
    let at = c.first_from-at.result in
    let place = c.place-place.result in
    let none : ℕ × Doc = (0, []) in
    let doc : Doc = (get_or docs k none).1 in
    let slot : Slot = record { version = (get_or docs k none).0; document = Some doc } in
    let is : (d : Slot) → get_or slots place d ≡ slot = λ d. c.place-place.ensures.slot d none in
    let same : (f : ℕ × Doc) → doc ≡ (get_or docs k f).1 = λ f.
    ap (λ (s : Slot). unwrap_or s.document [])
    (sym (is slot) ∙ c.place-place.ensures.slot slot f) in
    let first = subst (λ r. IsFirstFrom r place at) c.requires c.first_from-at.ensures in
    let long : length c.args.places.now ≡ length (places_where of_slot 0 slots) = ap length c.requires in
    let lt : k < length docs = omega arith in (
      c.first_from-at.ensures.within,
      elim c.if-at-places.branch [
        | then-at-places+then-places-at+in_ok-of+in_ok-push w ↦
            let passes = passes_there of_slot slots place slot c.place-place.ensures.in_range is at
            (omega (arith, long, w.if-at-places.true))
            (sym (ap (λ r. slice_index r at) c.requires) ∙ w.if-places-at.true) in
            let d = w.document_at.result.now in
            rw (w.found-is, w.in_ok-push.ensures.items, map-append g.K.Lends.doc, w.in_ok-of.ensures)
            (sym (found_more test before docs k d lt w.document_at.ensures
            (ap test (w.document_at.ensures none) ∙ passes))
            ∙ c.loop-k.invariant.1)
        | else-at-places w ↦
            let fails = fails_there of_slot slots place slot c.place-place.ensures.in_range is at first
            (λ within found. elim w.else-at-places.branch [
              | else-at-places-via-then-at-places+else-places-at u ↦
                  u.if-places-at.false (ap (λ r. slice_index r at) c.requires ∙ found)
              | else-at-places-via-else-at-places u ↦
                  absurd (omega (arith, long, within, u.if-at-places.false))
            ]) in
            rw w.found-is
            (sym (found_less test before docs k doc lt same fails) ∙ c.loop-k.invariant.1)
      ],
    )
