use Rattle.std.proofs.Common.{◌≡◌, ◌+◌, ◌*◌, ◌++◌, drop}
use Rattle.expr_types.specs.ExprTree.{inputs_in, inputs_of}
use Rattle.expr_types.specs.Heights.{height}
use Rattle.expr_types.specs.ExprTree.{expr_tree}
use Rattle.expr_check.specs.Walk.{orders_of, all_fields}
use Rattle.stream_engine.proofs.naming.+naming.Given as goal

-- the orders and fields so far, and those that are still to be found, are all
abbrev pub invariant-told_of_inputs-loop-k : goal.invariant-told_of_inputs-loop-k
invariant-told_of_inputs-loop-k l = record {
  orders : l.orders.items ++ orders_of (inputs_of (drop l.k (inputs_in (expr_tree l.expr))))
      ≡ orders_of (inputs_of (inputs_in (expr_tree l.expr)));
  fields : l.fields.items ++ all_fields (inputs_of (drop l.k (inputs_in (expr_tree l.expr))))
      ≡ all_fields (inputs_of (inputs_in (expr_tree l.expr)));
}

-- an input is lower than its expression
abbrev pub decreases-told_of : goal.decreases-told_of
decreases-told_of l = height (expr_tree l.expr.now) * 2 + 1

abbrev pub decreases-told_of_inputs : goal.decreases-told_of_inputs
decreases-told_of_inputs l = height (expr_tree l.expr.now) * 2
