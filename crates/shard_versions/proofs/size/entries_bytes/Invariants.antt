use Rattle.std.proofs.Common.{◌≡◌, ◌-◌, ◌^◌, min, take}
use Rattle.shard_versions.specs.Sizes.{entries_bytes}
use Rattle.shard_versions.proofs.size.entries_bytes.Given as goal

-- the bytes of the entries so far
abbrev pub invariant-loop-entry : goal.invariant-loop-entry
invariant-loop-entry l = l.total ≡ min (entries_bytes (take l.entry-index l.entries)) (2 ^ 64 - 1)
