use Rattle.std.proofs.Common.{◌≡◌, ◌∙◌, ℕ, arith, ap, length, take, List, sym, subst}
use Rattle.shard_versions.specs.Shards.{Shard}
use Rattle.shard_versions.specs.Histories.{top, slots}
use Rattle.shard_versions.specs.Histories as histories
use Rattle.shard_versions.specs.Stored.{stored, places_of}
use Rattle.shard_versions.specs.Snapshots.{places_among, VersionsRise}
use Rattle.shard_versions.specs.declared.entry.Entry.{Entry}
use Rattle.shard_versions.proofs.SettledLemmas.{settled-short}
use Rattle.shard_versions.proofs.LogLemmas.{slots-length, writes-take}
use Rattle.shard_versions.proofs.RisingLemmas.{current-rises}
use Rattle.shard_versions.proofs.StoredLemmas.{stored-take, shown-documents, shown-held, shown-top}
use Rattle.shard_versions.proofs.CurrentLemmas.{among-places}
use Rattle.shard_versions.proofs.shard.ShardState.snapshot.Goals as goal

pub at-requires : goal.at-requires
at-requires c = omega (arith, c.self.invariant.closed, settled-short c.self.inside.log.entries)

pub share-requires : goal.share-requires
share-requires c =
    let h : List Entry = c.self.inside.log.entries in
    omega (arith, c.at.ensures, slots-length (take c.self.inside.closed h), slots-length h, writes-take c.self.inside.closed h)

-- the slots are those up to the last Mark
held : (c : goal.After-len) → c.in_ok-chunks.chunks.slots ≡ stored c.self.inside.log.entries
held c =
    let h : List Entry = c.self.inside.log.entries in
    c.in_ok-chunks.ensures
    ∙ stored-take h c.at.result (c.at.ensures ∙ ap (λ n. length (slots (take n h))) c.self.invariant.closed)

-- the places of the current ones, which are kept where some write isn't current
abbrev shown : goal.After-len → List ℕ
shown c = places_among c.self.inside.all_current (length c.in_ok-chunks.chunks.slots) c.in_ok-places.places.items

current : (c : goal.After-len) → shown c ≡ places_of c.self.inside.log.entries
current c =
    among-places c.self.inside.log.entries c.in_ok-chunks.chunks.slots c.self.inside.all_current
    c.in_ok-places.places.items (held c) c.self.invariant.current c.in_ok-places.ensures

pub invariant_of-result : goal.invariant_of-result
invariant_of-result c = record {
  held = shown-held c.self.inside.log.entries c.in_ok-chunks.chunks.slots (shown c) (held c) (current c);
  rises = subst (VersionsRise 0) (sym (shown-documents c.self.inside.log.entries c.in_ok-chunks.chunks.slots (shown c) (held c) (current c)))
      (current-rises c.self.inside.log.entries);
}

pub returns-clause-top : goal.returns-clause-top
returns-clause-top c =
    c.last_of.ensures
    ∙ (shown-top c.self.inside.log.entries c.in_ok-chunks.chunks.slots (shown c) (held c) (current c)
    ∙ ap (λ (s : Shard). top s.entries) c.self.view_is)

pub returns-clause-documents : goal.returns-clause-documents
returns-clause-documents c =
    shown-documents c.self.inside.log.entries c.in_ok-chunks.chunks.slots (shown c) (held c) (current c)
    ∙ ap (λ (s : Shard). histories.current s.entries) c.self.view_is

pub returns-clause-slots : goal.returns-clause-slots
returns-clause-slots c = held c ∙ ap (λ (s : Shard). stored s.entries) c.self.view_is

pub returns-clause-places : goal.returns-clause-places
returns-clause-places c = current c ∙ ap (λ (s : Shard). places_of s.entries) c.self.view_is
