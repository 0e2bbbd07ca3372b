use Rattle.std.proofs.Common.{◌≡◌, length, take}
use Rattle.shard_versions.specs.Histories.{settled}
use Rattle.law_checks.proofs.judging.settled.Given as goal

-- so many entries are settled so far
abbrev pub invariant-loop-at : goal.invariant-loop-at
invariant-loop-at l = l.closed ≡ length (settled (take l.at l.history))
