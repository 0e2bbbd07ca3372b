use Rattle.std.proofs.Common.{◌≡◌, ◌∙◌, List, length, take, get_or, arith, sym, ap, refl, subst}
use Rattle.std.proofs.lemmas.List.{length-take}
use Rattle.std.specs.Prelude.{is_some}
use Rattle.shard_versions.specs.Histories.{slots, slots_after}
use Rattle.shard_versions.specs.Stored.{stored, places_of}
use Rattle.shard_versions.specs.declared.entry.Entry.{Entry}
use Rattle.shard_versions.proofs.LogLemmas.{last-few}
use Rattle.shard_versions.proofs.SnapshotLemmas.{placing-begins, placing-ends, version_after-next}
use Rattle.shard_versions.specs.Snapshots.{VersionsRise}
use Rattle.shard_versions.proofs.RisingLemmas.{current-rises}
use Rattle.shard_versions.proofs.StoredLemmas.{shown-documents, shown-held, shown-top}
use Rattle.shard_versions.proofs.ReadingLemmas.{snapshot-more, snapshot-ends, is_some-copied}
use Rattle.shard_versions.proofs.reading.snapshot_of.Goals as goal

pub loop-place-init : goal.loop-place-init
unfolding slots slots_after
loop-place-init c = record {
  places = placing-begins c.args.history.now c.new-places.result.items c.new-places.ensures.items;
  kept = c.empty-chunks.ensures;
  version = refl;
}

pub version_after-version-requires : goal.version_after-version-requires
version_after-version-requires c =
    omega (
      arith,
      c.loop-place.invariant.version,
      last-few (take c.loop-place.place c.args.history.now),
      length-take c.loop-place.place c.args.history.now,
      c.settled-entries.type_inv,
    )

pub keep-requires : goal.keep-requires
keep-requires c =
    let x : Entry = get_or c.settled-entries.result.now c.loop-place.place c.index-entries-place.result in
    omega (
      arith,
      c.loop-place.invariant.version,
      last-few (take c.loop-place.place c.args.history.now),
      length-take c.loop-place.place c.args.history.now,
      c.settled-entries.type_inv,
      c.version_after-version.ensures,
      version_after-next c.loop-place.version x.kind,
    )

pub loop-place-preserved : goal.loop-place-preserved
loop-place-preserved c =
    let entries : List Entry = c.settled-entries.result.now in
    let x : Entry = get_or entries c.loop-place.place c.index-entries-place.result in
    let more = snapshot-more c.args.history.now entries c.loop-place.place x c.settled-entries.ensures c.loop-place-test.true
    (ap (get_or entries c.loop-place.place) c.index-entries-place.is)
    c.is_written-replaced.result c.is_some.result c.is_written-replaced.ensures
    (c.is_some.ensures ∙ (sym (is_some-copied c.left.result) ∙ ap is_some c.left.ensures))
    c.len.result c.loop-place.version c.version_after-version.result c.loop-place.places.items c.push_current.new.places.items
    c.loop-place.chunks.slots c.keep.new.chunks.slots c.loop-place.invariant.places c.loop-place.invariant.kept
    c.loop-place.invariant.version c.len.ensures.count c.in_ok-push_current.ensures c.version_after-version.ensures
    c.in_ok-keep.ensures in
    record { places = more.places; kept = more.kept; version = more.version }

-- the slots and the places are those of the settled part
held : (c : goal.After-last_of) → c.loop-place.chunks.slots ≡ stored c.args.history.now
held c =
    snapshot-ends c.args.history.now c.loop-place.place c.loop-place.chunks.slots
    (omega (arith, c.loop-place-test.false, ap length c.settled-entries.ensures))
    (omega (arith, c.loop-place.auto, ap length c.settled-entries.ensures)) c.loop-place.invariant.kept

placed : (c : goal.After-last_of) → c.loop-place.places.items ≡ places_of c.args.history.now
placed c =
    placing-ends c.args.history.now c.loop-place.place c.loop-place.places.items
    (omega (arith, c.loop-place-test.false, ap length c.settled-entries.ensures)) c.loop-place.invariant.places

pub invariant_of-result : goal.invariant_of-result
invariant_of-result c = record {
  held = shown-held c.args.history.now c.loop-place.chunks.slots c.loop-place.places.items (held c) (placed c);
  rises = subst (VersionsRise 0) (sym (shown-documents c.args.history.now c.loop-place.chunks.slots c.loop-place.places.items (held c) (placed c)))
      (current-rises c.args.history.now);
}

pub returns-clause-top : goal.returns-clause-top
returns-clause-top c =
    c.last_of.ensures
    ∙ shown-top c.args.history.now c.loop-place.chunks.slots c.loop-place.places.items (held c) (placed c)

pub returns-clause-documents : goal.returns-clause-documents
returns-clause-documents c =
    shown-documents c.args.history.now c.loop-place.chunks.slots c.loop-place.places.items (held c) (placed c)

pub returns-clause-slots : goal.returns-clause-slots
returns-clause-slots c = held c

pub returns-clause-places : goal.returns-clause-places
returns-clause-places c = placed c
