use Rattle.std.proofs.Common.{take}
use Rattle.law_checks.specs.Judged.{AreSentUpTo}
use Rattle.law_checks.proofs.sight.sent_in.Given as goal

-- what the entries so far sent
abbrev pub invariant-loop-entry : goal.invariant-loop-entry
invariant-loop-entry l = AreSentUpTo l.sent (take l.entry-index l.history)
