use Rattle.std.proofs.Common.{◌≡◌, drop}
use Rattle.expr_types.specs.ConditionTree.{trees_of}
use Rattle.expr_types.specs.ConditionViews.{condition_trees}
use Rattle.expr_types.specs.Conditions.{all_hold, any_holds}
use Rattle.row_kernels.proofs.testing.+testing.Given as goal

-- the conditions so far hold, so the others decide
abbrev pub invariant-all_hold-loop-condition : goal.invariant-all_hold-loop-condition
invariant-all_hold-loop-condition l =
    all_hold (trees_of (condition_trees l.conditions)) l.tuple
    ≡ all_hold (trees_of (condition_trees (drop l.condition-index l.conditions))) l.tuple

-- no condition so far holds, so the others decide
abbrev pub invariant-any_holds-loop-condition : goal.invariant-any_holds-loop-condition
invariant-any_holds-loop-condition l =
    any_holds (trees_of (condition_trees l.conditions)) l.tuple
    ≡ any_holds (trees_of (condition_trees (drop l.condition-index l.conditions))) l.tuple
