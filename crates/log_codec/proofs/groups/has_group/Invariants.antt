use Rattle.std.proofs.Common.{◌≡◌, false, take}
use Rattle.shard_versions.specs.Documents.{has_group}
use Rattle.log_codec.proofs.groups.has_group.Given as goal

-- no group so far
abbrev pub invariant-loop-k : goal.invariant-loop-k
invariant-loop-k l = has_group (take l.k l.document) ≡ false
