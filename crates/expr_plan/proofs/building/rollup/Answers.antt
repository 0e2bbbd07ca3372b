use Rattle.std.proofs.Common.{◌≡◌, ◌∙◌, ap, sym, refl, codes}
use Rattle.expr_types.specs.ExprTree.{ExprTree}
use Rattle.expr_types.specs.ExprTree.{expr_tree, expr_step}
use Rattle.expr_plan.specs.Given.{metrics_in}
use Rattle.expr_types.specs.declared.expr.Expr.TheVariants as expr
use Rattle.expr_types.specs.declared.expr.Expr.TheFolds.{fold-roll-Expr}
use Rattle.expr_types.specs.declared.expr.Expr.TheOpen.{Expr-F}
use Rattle.expr_plan.proofs.GivenLemmas.{metrics_in-taken}
use Rattle.expr_plan.proofs.building.rollup.Goals as goal

pub returns : goal.returns
returns c =
    let before = c.args.params.items.items in
    let after = c.take_names-over.new.self.items.items in
    let stays : metrics_in after ≡ metrics_in before =
    ap metrics_in c.take_names-over.ensures.rest
    ∙ metrics_in-taken (codes "over") before refl in
    ap expr_tree
    (sym (expr.rolls-Rollup c.in_ok-input.input c.take_names-over.result c.in_ok-metrics.metrics))
    ∙ fold-roll-Expr ExprTree expr_step
    (Expr-F.Rollup c.in_ok-input.input c.take_names-over.result c.in_ok-metrics.metrics)
    ∙ rw (
      c.in_ok-input.ensures,
      c.take_names-over.ensures.value,
      c.in_ok-metrics.ensures,
      stays,
    ) refl
