use Rattle.std.proofs.Common.{◌≡◌, drop}
use Rattle.expr_types.specs.ExprTree.{inputs_in, inputs_of, expr_tree}
use Rattle.expr_types.specs.Heights.{height}
use Rattle.expr_check.specs.Reads.{are_known}
use Rattle.expr_check.specs.Walk.{named_in, all_named}
use Rattle.expr_check.proofs.reads.+stands_on.Given as goal

-- all so far are known, so the collections of the inputs to come decide
abbrev pub invariant-loop-k : goal.invariant-loop-k
invariant-loop-k l =
    are_known (named_in (expr_tree l.expr)) l.names
    ≡ are_known (all_named (inputs_of (drop l.k (inputs_in (expr_tree l.expr))))) l.names

-- an input is lower than its expression
abbrev pub decreases-stands_on : goal.decreases-stands_on
decreases-stands_on l = height (expr_tree l.expr.now)
