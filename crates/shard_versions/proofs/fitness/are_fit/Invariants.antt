use Rattle.std.proofs.Common.{take}
use Rattle.shard_versions.specs.Fitness.{IsFit}
use Rattle.shard_versions.proofs.fitness.are_fit.Given as goal

-- the shard may have each entry so far
abbrev pub invariant-loop-entry : goal.invariant-loop-entry
invariant-loop-entry l = IsFit l.shards l.shard (take l.entry-index l.step)
