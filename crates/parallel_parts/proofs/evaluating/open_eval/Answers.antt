use Rattle.std.proofs.Common.{sym, subst}
use Rattle.std.specs.List.{AllByRecursion}
use Rattle.expr_check.specs.Views.{tree_of}
use Rattle.part_laws.specs.Splits.{IsSplit}
use Rattle.part_laws.proofs.SplitLemmas.{all_split}
use Rattle.parallel_parts.proofs.evaluating.open_eval.Goals as goal

pub fed_lists-requires-after_bounds : goal.fed_lists-requires-after_bounds
fed_lists-requires-after_bounds g c κs bounds =
    subst (AllByRecursion IsSplit) (sym c.parallels.ensures)
    (all_split (tree_of c.args.checked.now) c.requires c.expr-expr.ensures.planned.0
    c.expr-expr.ensures.faultless)
