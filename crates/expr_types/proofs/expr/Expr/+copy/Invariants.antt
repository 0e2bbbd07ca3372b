use Rattle.std.proofs.Common.{◌≡◌, map, take}
use Rattle.expr_types.specs.ExprTree.{inputs_in}
use Rattle.expr_types.specs.Heights.{height}
use Rattle.expr_types.specs.ExprTree.{expr_tree}
use Rattle.expr_types.proofs.expr.Expr.+copy.Given as goal

-- the copies of the inputs so far
abbrev pub invariant-loop-k : goal.invariant-loop-k
invariant-loop-k l = map expr_tree l.inputs.items ≡ take l.k (inputs_in (expr_tree l.self))

-- an input is lower than its expression
abbrev pub decreases-copy : goal.decreases-copy
decreases-copy l = height (expr_tree l.self.now)
