-- How an expression was carried out (own).
use Rattle.std.specs.Prelude.{◌≡◌}
use Rattle.exchange_rules.specs.Following.{Writer, Answers, cleared}
use Rattle.exchange_rules.specs.Rows.{Layout}
use Rattle.expr_types.specs.ExprTree.{ExprTree}
use Rattle.root_runs.specs.Runs.{root_course}
use Rattle.root_runs.specs.declared.done.Done.{Done}
use Rattle.root_runs.specs.declared.running.RootRun.{RootRun}

-- the writer began with an empty record, followed the expression's course, and left its record to
-- the run, which tells what the course answers
pub record IsRun (l : Layout) (old new : Writer) (e : ExprTree) (run : RootRun) : Type 0 where
  pub done : Done
  pub end : Writer
  pub carried : Answers (cleared old) end (root_course l e) done
  pub rest : new ≡ cleared end
  pub docs : run.docs ≡ done.docs
  pub exception : run.exception ≡ done.exception
  pub read : run.read ≡ done.read
  pub marks : run.marks ≡ end.marks
  pub own : run.own ≡ end.own
