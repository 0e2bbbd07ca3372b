use Rattle.std.proofs.Common.{◌≡◌, take}
use Rattle.shard_versions.proofs.log.Log.entries.Given as goal

-- the entries so far
abbrev pub invariant-loop-k : goal.invariant-loop-k
invariant-loop-k l = l.entries ≡ take l.k l.self.entries
