-- What each expression does looks first (own).
use Rattle.std.specs.Prelude.{None}
use Rattle.exchange_rules.specs.Looking.{LooksFirst}
use Rattle.exchange_rules.specs.Rows.{Layout}
use Rattle.expr_types.specs.ExprTree.{ExprTree}
use Rattle.root_runs.specs.Runs.{list_course, root_course}

-- each step of each expression comes right after a look at its cell
pub record RootsLookFirst : Type 0 where
  pub list : (l : Layout) (e : ExprTree) → LooksFirst None (list_course l e)
  pub root : (l : Layout) (e : ExprTree) → LooksFirst None (root_course l e)
