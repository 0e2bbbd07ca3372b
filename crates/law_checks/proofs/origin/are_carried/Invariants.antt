use Rattle.std.proofs.Common.{take}
use Rattle.std.specs.List.{AllByRecursion}
use Rattle.shard_versions.specs.Documents.{IsCarried}
use Rattle.law_checks.proofs.origin.are_carried.Given as goal

-- the fields so far are
abbrev pub invariant-loop-k : goal.invariant-loop-k
invariant-loop-k l = AllByRecursion (IsCarried l.source) (take l.k l.delivered)
