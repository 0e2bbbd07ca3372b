use Rattle.std.proofs.Common.{◌<◌, ◌++◌, ◌∷◌, [], ◌&&◌, not, cond, ℕ, List, length, take, get_or, arith, ap, ◌∙◌}
use Rattle.std.proofs.lemmas.List.{get_or_default}
use Rattle.shard_versions.specs.Histories.{settled}
use Rattle.shard_versions.specs.Indexes.{is_replaced}
use Rattle.shard_versions.specs.declared.entry.Entry.{Entry}
use Rattle.shard_versions.proofs.IndexLemmas.{no_entry, nexts_of-length}
use Rattle.shard_versions.proofs.SettledLemmas.{settled-short}
use Rattle.shard_versions.proofs.LogLemmas.{slots-length}
use Rattle.shard_versions.proofs.SnapshotLemmas.{placing-begins, placing-ends, placing-goes}
use Rattle.shard_versions.proofs.shard.current_places.Goals as goal

pub loop-place-init : goal.loop-place-init
loop-place-init c = placing-begins c.args.log.now.entries c.new-places.result.items c.new-places.ensures.items

pub offset_bounds-nexts-place : goal.offset_bounds-nexts-place
offset_bounds-nexts-place c =
    let h : List Entry = c.args.log.now.entries in
    let inside : c.loop-place.place < length c.args.nexts.now =
    omega (arith, c.requires.closed, settled-short h, ap length c.requires.nexts, nexts_of-length 0 h) in
    omega (arith, inside)

pub bounds-nexts-place : goal.bounds-nexts-place
bounds-nexts-place c =
    let h : List Entry = c.args.log.now.entries in
    omega (arith, c.requires.closed, settled-short h, ap length c.requires.nexts, nexts_of-length 0 h)

pub at-requires : goal.at-requires
at-requires c = omega (arith, c.requires.closed, settled-short c.args.log.now.entries)

pub has_document-requires : goal.has_document-requires
has_document-requires c = omega (arith, c.requires.closed, settled-short c.args.log.now.entries)

pub loop-place-preserved : goal.loop-place-preserved
loop-place-preserved c =
    let h : List Entry = c.args.log.now.entries in
    let p : ℕ = c.loop-place.place in
    let ns : List ℕ = c.args.nexts.now in
    let ps : List ℕ = c.loop-place.places.items in
    let x : Entry = get_or h p no_entry in
    let next : ℕ = get_or ns p 0 in
    let at : ℕ = c.at.result in
    let within : p < length (settled h) = omega (arith, c.requires.closed) in
    let lt : p < length h = omega (arith, within, settled-short h) in
    let linked : p < length ns = omega (arith, lt, ap length c.requires.nexts, nexts_of-length 0 h) in
    placing-goes h p x within (get_or_default h p no_entry x lt) next at ns ps c.push_current.new.places.items
    c.loop-place.invariant c.requires.nexts (get_or_default ns p 0 next linked)
    (c.at.ensures ∙ slots-length (take p h))
    (c.in_ok-push_current.ensures
    ∙ (ap (λ b. ps ++ cond (not b && c.has_document.result) (at ∷ []) [])
    (c.is_replaced-replaced.ensures ∙ ap (is_replaced next) c.requires.closed)
    ∙ ap (λ b. ps ++ cond (not (is_replaced next (length (settled h))) && b) (at ∷ []) []) (c.has_document.ensures no_entry)))

pub returns : goal.returns
returns c =
    placing-ends c.args.log.now.entries c.loop-place.place c.loop-place.places.items (omega (arith, c.requires.closed))
    c.loop-place.invariant
