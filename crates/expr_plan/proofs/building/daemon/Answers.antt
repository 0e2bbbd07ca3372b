use Rattle.std.proofs.Common.{◌≡◌, ◌∙◌, ap, sym, refl, codes}
use Rattle.expr_types.specs.ExprTree.{ExprTree}
use Rattle.expr_types.specs.ExprTree.{expr_tree, expr_step}
use Rattle.expr_types.specs.declared.expr.Expr.TheVariants as expr
use Rattle.expr_types.specs.declared.expr.Expr.TheFolds.{fold-roll-Expr}
use Rattle.expr_types.specs.declared.expr.Expr.TheOpen.{Expr-F}
use Rattle.expr_plan.specs.Given.{param_at, count_or, flag_in}
use Rattle.expr_plan.proofs.GivenLemmas.{third_found}
use Rattle.expr_plan.proofs.building.daemon.Goals as goal

pub returns : goal.returns
returns c =
    let before = c.args.params.items.items in
    let second = c.take_text-id.new.self.items.items in
    let third = c.take_count_or-interval.new.self.items.items in
    let stay =
    third_found (codes "id") (codes "runInterval") (codes "terminate") before second third
    c.take_text-id.ensures.rest c.take_count_or-interval.ensures.rest refl refl in
    let interval : count_or 1000 (param_at (codes "runInterval") second)
    ≡ count_or 1000 (param_at (codes "runInterval") before) =
    ap (count_or 1000) stay.0 in
    let terminate : flag_in (param_at (codes "terminate") third)
    ≡ flag_in (param_at (codes "terminate") before) =
    ap flag_in stay.1 in
    ap expr_tree
    (sym (expr.rolls-Daemon c.in_ok-input.input c.take_text-id.result c.take_count_or-interval.result
    c.take_flag-terminate.result))
    ∙ fold-roll-Expr ExprTree expr_step
    (Expr-F.Daemon c.in_ok-input.input c.take_text-id.result c.take_count_or-interval.result
    c.take_flag-terminate.result)
    ∙ rw (
      c.in_ok-input.ensures,
      c.take_text-id.ensures.value,
      c.take_count_or-interval.ensures.value,
      c.take_flag-terminate.ensures.value,
      interval,
      terminate,
    ) refl
