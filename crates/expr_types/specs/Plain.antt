-- Which expressions only read documents (own).
use Rattle.std.specs.Prelude.{◌≡◌, ◌&&◌, Bool, true}
use Rattle.expr_types.specs.ExprTree.{ExprTree, node, ExprTrees, no_exprs, an_expr}
use Rattle.expr_types.specs.Rules.{rule_of}

abbrev mutual
  -- each function of an expression only reads documents, and gives a list of them
  pub is_plain : ExprTree → Bool
  is_plain (node op inputs) = (rule_of op).is_plain && are_plain inputs

  -- the same of inputs
  pub are_plain : ExprTrees → Bool
  are_plain no_exprs = true
  are_plain (an_expr e exprs) = is_plain e && are_plain exprs

-- an expression that a list of documents stands for
abbrev pub IsPlain : ExprTree → Type 0
IsPlain t = is_plain t ≡ true
