use Rattle.std.proofs.Common.{◌≡◌, take}
use Rattle.expr_types.specs.ConditionViews.{condition_trees}
use Rattle.expr_types.proofs.condition.+copying.Given as goal

-- the copies of the conditions so far
abbrev pub invariant-copy_all-loop-condition : goal.invariant-copy_all-loop-condition
invariant-copy_all-loop-condition l =
    condition_trees l.copies.items ≡ condition_trees (take l.condition-index l.conditions)
