use Rattle.std.proofs.Common.{◌≡◌, take}
use Rattle.shard_segments.proofs.chunk.shared.Given as goal

-- the slots so far
abbrev pub invariant-loop-slot : goal.invariant-loop-slot
invariant-loop-slot l = l.all.items ≡ take l.slot-index l.slots
