use Rattle.std.proofs.Common.{◌≡◌, ◌∙◌, ap, sym, refl, codes}
use Rattle.expr_types.specs.ExprTree.{ExprTree}
use Rattle.expr_types.specs.ExprTree.{expr_tree, expr_step}
use Rattle.expr_plan.specs.Given.{param_at, group_in}
use Rattle.expr_types.specs.declared.expr.Expr.TheVariants as expr
use Rattle.expr_types.specs.declared.expr.Expr.TheFolds.{fold-roll-Expr}
use Rattle.expr_types.specs.declared.expr.Expr.TheOpen.{Expr-F}
use Rattle.expr_plan.proofs.GivenLemmas.{param_at-stays}
use Rattle.expr_plan.proofs.building.reduce.Goals as goal

pub returns : goal.returns
returns c =
    let before = c.args.params.items.items in
    let after = c.take_names-by.new.self.items.items in
    let stays : group_in (param_at (codes "group") after)
    ≡ group_in (param_at (codes "group") before) =
    ap group_in (param_at-stays (codes "group") (codes "by") before after
    c.take_names-by.ensures.rest refl) in
    ap expr_tree
    (sym (expr.rolls-Reduce c.in_ok-input.input c.take_names-by.result c.take_group-group.result))
    ∙ fold-roll-Expr ExprTree expr_step
    (Expr-F.Reduce c.in_ok-input.input c.take_names-by.result c.take_group-group.result)
    ∙ rw (
      c.in_ok-input.ensures,
      c.take_names-by.ensures.value,
      c.take_group-group.ensures.value,
      stays,
    ) refl
