use Rattle.std.proofs.Common.{◌≡◌, ◌+◌, ◌<◌, length, drop, Some, None, option_map, ap, sym, ◌∙◌}
use Rattle.std.proofs.Common.{arith}
use Rattle.expr_reader.specs.Tree.{trees_of}
use Rattle.expr_reader.specs.Views.{arg_tree}
use Rattle.expr_plan.specs.ConditionReading.{condition_in, conditions_of}
use Rattle.expr_types.specs.ConditionViews.{condition_tree, condition_trees}
use Rattle.expr_plan.proofs.ConditionLemmas.{and_then_those, condition_read, condition_refused}
use Rattle.expr_plan.proofs.ConditionLemmas.{condition_trees-push}
use Rattle.expr_plan.proofs.conditions.+reading.Goals as goal

pub conditions_of-returns-in-None : goal.conditions_of-returns-in-None
conditions_of-returns-in-None t c =
    let lt : c.loop-k.k < length c.args.args.now = omega arith in
    let read : None ≡ condition_in (arg_tree c.get.result.now) =
    ap (option_map condition_tree) (sym c.in-None.is) ∙ c.in_ok-condition.ensures in
    condition_refused c.args.args.now c.loop-k.k (arg_tree c.get.result.now)
    (condition_trees c.loop-k.conditions.items) lt (c.get.ensures.value _) read c.loop-k.invariant

pub conditions_of-loop-k-preserved : goal.conditions_of-loop-k-preserved
conditions_of-loop-k-preserved t c =
    let lt : c.loop-k.k < length c.args.args.now = omega arith in
    let one = c.in-Some.condition in
    let read : Some (condition_tree one) ≡ condition_in (arg_tree c.get.result.now) =
    ap (option_map condition_tree) (sym c.in-Some.is) ∙ c.in_ok-condition.ensures in
    let so_far = c.loop-k.conditions.items in
    condition_read c.args.args.now c.loop-k.k (arg_tree c.get.result.now) (condition_tree one)
    (condition_trees so_far) lt (c.get.ensures.value _) read c.loop-k.invariant
    ∙ ap
    (λ w. and_then_those w (conditions_of (trees_of (drop (c.loop-k.k + 1) c.args.args.now))))
    (sym (ap condition_trees c.in_ok-push-in-Some.ensures.items ∙ condition_trees-push so_far one))
