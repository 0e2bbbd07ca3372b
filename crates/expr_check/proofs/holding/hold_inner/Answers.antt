use Rattle.std.proofs.Common.{map}
use Rattle.expr_types.specs.ExprTree.{expr_tree}
use Rattle.expr_check.specs.Views.{part_tree}
use Rattle.expr_check.proofs.HoldLemmas.{held_alone}
use Rattle.expr_check.proofs.holding.hold_inner.Goals as goal

pub returns : goal.returns
returns c =
    held_alone (expr_tree c.args.expr.now) c.args.withins.items
    (map part_tree c.in_ok-parts.parts.items) c.requires.held c.requires.alone c.requires.runs
    c.requires.splits c.in_ok-parts.ensures
