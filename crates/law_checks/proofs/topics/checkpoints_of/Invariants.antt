use Rattle.std.proofs.Common.{take}
use Rattle.law_checks.specs.Topics.{AreCheckpoints}
use Rattle.law_checks.proofs.topics.checkpoints_of.Given as goal

-- the checkpoints of the entries so far
abbrev pub invariant-loop-entry : goal.invariant-loop-entry
invariant-loop-entry l = AreCheckpoints l.stored (take l.entry-index l.book)
