use Rattle.std.proofs.Common.{◌≡◌, ◌*◌, take}
use Rattle.shard_segments.specs.Lists.{joined, AreWhole}
use Rattle.shard_segments.proofs.chunks.closed.Given as goal

-- the chunks so far
abbrev pub invariant-loop-k : goal.invariant-loop-k
invariant-loop-k l = record {
  joined : joined l.chunks.items ≡ take (l.k * 1024) l.slots;
  whole : AreWhole l.chunks.items;
}
