use Rattle.std.proofs.Common.{◌≡◌, map, take}
use Rattle.shard_versions.specs.Histories.{slots, last_version}
use Rattle.shard_versions.specs.Stored.{kept_slot}
use Rattle.shard_versions.proofs.SnapshotLemmas.{IsPlacing}
use Rattle.shard_versions.proofs.reading.snapshot_of.Given as goal

-- the walk has come so far
abbrev pub invariant-loop-place : goal.invariant-loop-place
invariant-loop-place l = record {
  places : IsPlacing l.history l.place l.places.items;
  kept : l.chunks.slots ≡ map kept_slot (slots (take l.place l.history));
  version : l.version ≡ last_version 0 (slots (take l.place l.history));
}
