use Rattle.std.proofs.Common.{◌≡◌, take}
use Rattle.shard_segments.proofs.chunks.first_chunks.Given as goal

-- the chunks so far
abbrev pub invariant-loop-k : goal.invariant-loop-k
invariant-loop-k l = l.first.items ≡ take l.k l.whole
