use Rattle.std.proofs.Common.{◌≡◌}
use Rattle.once_core.specs.declared.world.Histories.{Histories}
use Rattle.law_checks.specs.Coverage.{AreCoveredBelow}
use Rattle.law_checks.specs.Topics.{AreCheckpoints}
use Rattle.law_checks.proofs.uncovered.first_shard.Given as goal

-- the checkpoint is right at the shards so far
abbrev pub invariant-loop-shard : goal.invariant-loop-shard
invariant-loop-shard l =
    (hs : Histories) → l.against.sights.now ≡ hs.shards → AreCheckpoints l.stored hs.book
    → AreCoveredBelow l.against.names.now hs l.key l.bound.binding.now l.shard
