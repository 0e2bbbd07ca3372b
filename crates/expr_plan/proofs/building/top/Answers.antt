use Rattle.std.proofs.Common.{◌≡◌, ◌∙◌, ap, sym, refl, codes}
use Rattle.expr_types.specs.ExprTree.{ExprTree}
use Rattle.expr_types.specs.ExprTree.{expr_tree, expr_step}
use Rattle.expr_plan.specs.Given.{param_at, sort_in}
use Rattle.expr_types.specs.declared.expr.Expr.TheVariants as expr
use Rattle.expr_types.specs.declared.expr.Expr.TheFolds.{fold-roll-Expr}
use Rattle.expr_types.specs.declared.expr.Expr.TheOpen.{Expr-F}
use Rattle.expr_plan.proofs.GivenLemmas.{param_at-stays}
use Rattle.expr_plan.proofs.building.top.Goals as goal

pub returns : goal.returns
returns c =
    let before = c.args.params.items.items in
    let after = c.take_count_or-n.new.self.items.items in
    let stays : sort_in (param_at (codes "sort") after) ≡ sort_in (param_at (codes "sort") before) =
    ap sort_in (param_at-stays (codes "sort") (codes "n") before after
    c.take_count_or-n.ensures.rest refl) in
    ap expr_tree
    (sym (expr.rolls-Top c.in_ok-input.input c.take_count_or-n.result c.take_sort-sort.result))
    ∙ fold-roll-Expr ExprTree expr_step
    (Expr-F.Top c.in_ok-input.input c.take_count_or-n.result c.take_sort-sort.result)
    ∙ rw (
      c.in_ok-input.ensures,
      c.take_count_or-n.ensures.value,
      c.take_sort-sort.ensures.value,
      stays,
    ) refl
