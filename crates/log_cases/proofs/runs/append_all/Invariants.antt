-- The log is settled.
use Rattle.std.proofs.Common.{List}
use Rattle.commit_log.specs.Logs.{IsSettled}
use Rattle.commit_log.specs.Steps.{Step}
use Rattle.log_cases.proofs.runs.append_all.Given as goal

abbrev pub invariant-loop-ids : goal.invariant-loop-ids
invariant-loop-ids g l =
    (steps : List Step) × IsSettled g.D.Disk.seen g.D.Disk.may_leave steps l.log
    × (goal.iterator-loop-ids g).can_next l.ids-iterator
    × (goal.iterator-loop-ids g).is_finite l.ids-iterator
