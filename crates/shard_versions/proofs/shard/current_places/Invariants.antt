use Rattle.shard_versions.proofs.SnapshotLemmas.{IsPlacing}
use Rattle.shard_versions.proofs.shard.current_places.Given as goal

-- the walk has come so far
abbrev pub invariant-loop-place : goal.invariant-loop-place
invariant-loop-place l = IsPlacing l.log.entries l.place l.places.items
