use Rattle.std.proofs.Common.{◌≡◌, drop}
use Rattle.expr_reader.specs.Tree.{trees_of}
use Rattle.expr_plan.specs.ConditionReading.{conditions_of}
use Rattle.expr_types.specs.ConditionViews.{condition_trees}
use Rattle.expr_plan.proofs.ConditionLemmas.{and_then_those}
use Rattle.expr_plan.proofs.conditions.+reading.Given as goal

-- the conditions so far and those to come are all
abbrev pub invariant-conditions_of-loop-k : goal.invariant-conditions_of-loop-k
invariant-conditions_of-loop-k l =
    conditions_of (trees_of l.args)
    ≡ and_then_those (condition_trees l.conditions.items)
    (conditions_of (trees_of (drop l.k l.args)))
