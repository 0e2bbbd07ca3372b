use Rattle.std.proofs.Common.{ℕ, ◌<◌, ◌≤◌, slice_index}
use Rattle.shard_versions.specs.Histories.{top}
use Rattle.once_core.specs.Cells.{shard_history}
use Rattle.once_core.specs.Worlds.{seen_by}
use Rattle.once_core.proofs.store.are_reached.Given as goal

-- those of the shards so far are
abbrev pub invariant-loop-shard : goal.invariant-loop-shard
invariant-loop-shard l =
    (k : ℕ) → k < l.shard
    → slice_index l.upto k ≤ top (shard_history l.seen.names.now (seen_by l.seen.actor l.seen.world.now) l.src k)
