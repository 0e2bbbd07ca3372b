-- How deep an expression is (own).
use Rattle.std.specs.Prelude.{ℕ, ◌+◌, max}
use Rattle.expr_types.specs.ExprTree.{ExprTree, node, ExprTrees, no_exprs, an_expr}

-- how many expressions stand one in another at the deepest place, the whole counted
abbrev mutual
  pub height : ExprTree → ℕ
  height (node op exprs) = heights exprs + 1

  pub heights : ExprTrees → ℕ
  heights no_exprs = 0
  heights (an_expr e exprs) = max (height e) (heights exprs)
