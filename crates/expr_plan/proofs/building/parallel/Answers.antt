use Rattle.std.proofs.Common.{◌≡◌, ◌∙◌, ap, sym, refl, codes}
use Rattle.expr_types.specs.ExprTree.{ExprTree}
use Rattle.expr_types.specs.ExprTree.{expr_tree, expr_step}
use Rattle.expr_types.specs.declared.expr.Expr.TheVariants as expr
use Rattle.expr_types.specs.declared.expr.Expr.TheFolds.{fold-roll-Expr}
use Rattle.expr_types.specs.declared.expr.Expr.TheOpen.{Expr-F}
use Rattle.expr_plan.specs.Given.{param_at, small_in, sort_in}
use Rattle.expr_plan.proofs.GivenLemmas.{third_found}
use Rattle.expr_plan.proofs.building.parallel.Goals as goal

pub returns : goal.returns
returns c =
    let before = c.args.params.items.items in
    let second = c.take_text-collection.new.self.items.items in
    let third = c.take_small-workers.new.self.items.items in
    let stay =
    third_found (codes "workerCollection") (codes "workers") (codes "sort") before second third
    c.take_text-collection.ensures.rest c.take_small-workers.ensures.rest refl refl in
    let workers : small_in (param_at (codes "workers") second)
    ≡ small_in (param_at (codes "workers") before) =
    ap small_in stay.0 in
    let by : sort_in (param_at (codes "sort") third) ≡ sort_in (param_at (codes "sort") before) =
    ap sort_in stay.1 in
    ap expr_tree
    (sym (expr.rolls-Parallel c.in_ok-input.input c.take_text-collection.result
    c.take_small-workers.result c.take_sort-sort.result))
    ∙ fold-roll-Expr ExprTree expr_step
    (Expr-F.Parallel c.in_ok-input.input c.take_text-collection.result
    c.take_small-workers.result c.take_sort-sort.result)
    ∙ rw (
      c.in_ok-input.ensures,
      c.take_text-collection.ensures.value,
      c.take_small-workers.ensures.value,
      c.take_sort-sort.ensures.value,
      workers,
      by,
    ) refl
