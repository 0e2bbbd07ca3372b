use Rattle.std.proofs.Common.{ℕ, ◌<◌, None}
use Rattle.once_core.specs.Cells.{history_at}
use Rattle.law_checks.specs.Judged.{IsFirstIn}
use Rattle.law_checks.proofs.bad_sents.first_bad_sent.Given as goal

-- nothing breaks the law in the cells so far
abbrev pub invariant-loop-cell : goal.invariant-loop-cell
invariant-loop-cell l =
    (cell : ℕ) → cell < l.cell → IsFirstIn l.fn.names l.histories cell (history_at l.histories cell) None
