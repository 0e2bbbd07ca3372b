use Rattle.std.proofs.Common.{ℕ, ◌<◌, slice_index}
use Rattle.topic_book.specs.Books.{checkpoint}
use Rattle.once_core.specs.Cells.{shard_history}
use Rattle.once_core.specs.Law.{AreSent}
use Rattle.once_core.specs.Worlds.{seen_by}
use Rattle.once_core.proofs.store.are_covered.Given as goal

-- those of the shards so far were sent
abbrev pub invariant-loop-shard : goal.invariant-loop-shard
invariant-loop-shard l =
    (k : ℕ) → k < l.shard
    → AreSent l.seen.names.now (seen_by l.seen.actor l.seen.world.now) l.binding l.dest
    (shard_history l.seen.names.now (seen_by l.seen.actor l.seen.world.now) l.binding.src k)
    (checkpoint l.key (seen_by l.seen.actor l.seen.world.now).book k) (slice_index l.upto k)
