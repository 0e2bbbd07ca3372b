-- The log is settled.
use Rattle.std.proofs.Common.{List}
use Rattle.commit_log.specs.Logs.{IsSettled}
use Rattle.commit_log.specs.Steps.{Step}
use Rattle.log_cases.proofs.files.append_from.Given as goal

abbrev pub invariant-loop-number : goal.invariant-loop-number
invariant-loop-number g l =
    (steps : List Step) × IsSettled g.D.Disk.seen g.D.Disk.may_leave steps l.log
