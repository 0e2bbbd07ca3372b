use Rattle.std.proofs.Common.{◌≡◌, ℕ, [], None, Some, Option, ap, sym, ◌∙◌}
use Rattle.std.specs.Prelude.{slice_index_or, unwrap_or}
use Rattle.tuple_values.specs.Document.{Doc}
use Rattle.shard_segments.specs.declared.slot.Slot.{Slot}
use Rattle.source_streams.proofs.kept.document_at.Goals as goal

-- the slot that is got has the document
abbrev none : Slot
none = record { version = 0; document = None }

pub unreachable-requires : goal.unreachable-requires
unreachable-requires c =
    let first : ℕ × Doc = (0, []) in
    let is : c.get.result.now.document
    ≡ Some (slice_index_or c.args.snapshot.now.documents c.args.k first).1 =
    ap (λ (s : Slot). s.document)
    (c.get.ensures none ∙ ap (λ slots. slice_index_or slots c.place.result none) c.chunks.ensures
    ∙ c.place.ensures.slot none first) in
    let other = c.in-None.is in
    absurd (cc)

pub returns : goal.returns
returns c d =
    ap (λ (o : Option Doc). unwrap_or o [])
    (sym c.in-Some.is
    ∙ ap (λ (s : Slot). s.document)
    (c.get.ensures none ∙ ap (λ slots. slice_index_or slots c.place.result none) c.chunks.ensures
    ∙ c.place.ensures.slot none d))
