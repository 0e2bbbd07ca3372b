use Rattle.std.proofs.Common.{◌≡◌, map, drop}
use Rattle.expr_reader.specs.Tree.{trees_of}
use Rattle.expr_types.specs.ExprTree.{expr_tree}
use Rattle.expr_plan.specs.Walk.{inputs_planned}
use Rattle.expr_plan.proofs.InputLemmas.{behind}
use Rattle.expr_plan.proofs.planning.+planning.Given as goal

-- the inputs so far and those to come are all
abbrev pub invariant-plan_inputs-loop-k : goal.invariant-plan_inputs-loop-k
invariant-plan_inputs-loop-k l =
    inputs_planned l.place l.function (trees_of l.args)
    ≡ behind (map expr_tree l.inputs) (inputs_planned l.place l.function (trees_of (drop l.k l.args)))
