use Rattle.std.proofs.Common.{◌≡◌, drop}
use Rattle.shard_versions.specs.Trees.{mark_from}
use Rattle.shard_versions.proofs.finding.mark_from.Given as goal

-- the mark of all bytes is that so far, gone on with from the rest
abbrev pub invariant-loop-byte : goal.invariant-loop-byte
invariant-loop-byte l = mark_from l.from l.bytes ≡ mark_from l.mark (drop l.byte-index l.bytes)
