use Rattle.std.proofs.Common.{◌≡◌, ◌∙◌, ap, sym, refl, codes}
use Rattle.expr_types.specs.ExprTree.{ExprTree}
use Rattle.expr_types.specs.ExprTree.{expr_tree, expr_step}
use Rattle.expr_types.specs.declared.expr.Expr.TheVariants as expr
use Rattle.expr_types.specs.declared.expr.Expr.TheFolds.{fold-roll-Expr}
use Rattle.expr_types.specs.declared.expr.Expr.TheOpen.{Expr-F}
use Rattle.expr_plan.specs.Given.{param_at, count_or}
use Rattle.expr_plan.proofs.GivenLemmas.{param_at-stays}
use Rattle.expr_plan.proofs.building.update.Goals as goal

pub returns : goal.returns
returns c =
    let before = c.args.params.items.items in
    let after = c.take_text-dest.new.self.items.items in
    let stays : count_or 250 (param_at (codes "batchSize") after)
    ≡ count_or 250 (param_at (codes "batchSize") before) =
    ap (count_or 250)
    (param_at-stays (codes "batchSize") (codes "destination") before after
    c.take_text-dest.ensures.rest refl) in
    ap expr_tree
    (sym (expr.rolls-Update c.in_ok-input.input c.take_text-dest.result c.take_count_or-batch_size.result))
    ∙ fold-roll-Expr ExprTree expr_step
    (Expr-F.Update c.in_ok-input.input c.take_text-dest.result c.take_count_or-batch_size.result)
    ∙ rw (
      c.in_ok-input.ensures,
      c.take_text-dest.ensures.value,
      c.take_count_or-batch_size.ensures.value,
      stays,
    ) refl
