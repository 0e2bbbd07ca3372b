-- What the expression of a plan is like: each operator has as many inputs as it takes, its numbers
-- are within their limits, what it makes of a key doesn't touch the fields of the key, and the query
-- of a topic is what its text is read as; no more than 200 calls stand in it (limits own).
use Rattle.std.specs.Prelude.{ℕ, ◌+◌, ◌≤◌, ◌≡◌, length, true}
use Rattle.expr_types.specs.Rules.{is_well, IsRead}
use Rattle.expr_types.specs.ExprTree.{ExprTree, node, ExprTrees, no_exprs, an_expr, expr_list}

-- the greatest number of calls in an expression
abbrev pub call_limit : ℕ
call_limit = 200

-- each operator is as a plan gives it
abbrev mutual
  pub AreWell : ExprTree → Type 0
  AreWell (node op inputs) =
      (is_well op (length (expr_list inputs)) ≡ true) × (IsRead op × AreAllWell inputs)

  -- the same of inputs
  pub AreAllWell : ExprTrees → Type 0
  AreAllWell no_exprs = Unit {0}
  AreAllWell (an_expr e exprs) = AreWell e × AreAllWell exprs

-- how many calls stand in an expression, itself counted
abbrev mutual
  pub size : ExprTree → ℕ
  size (node op inputs) = sizes inputs + 1

  -- the same of inputs
  pub sizes : ExprTrees → ℕ
  sizes no_exprs = 0
  sizes (an_expr e exprs) = size e + sizes exprs

-- an expression that may be checked: a plan gives it for a call of no more than 200 calls
abbrev pub IsPlanned : ExprTree → Type 0
IsPlanned t = AreWell t × (size t ≤ call_limit)
