use Rattle.std.proofs.Common.{take}
use Rattle.shard_versions.specs.Fitness.{AreStorable}
use Rattle.shard_versions.proofs.fitness.are_storable.Given as goal

-- each entry so far can be kept
abbrev pub invariant-loop-entry : goal.invariant-loop-entry
invariant-loop-entry l = AreStorable (take l.entry-index l.step)
