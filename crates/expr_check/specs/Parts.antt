-- Which expressions in an expression are checked by themselves: the input of a function that runs it,
-- and those of the outermost parallel calls (own).
use Rattle.std.specs.Prelude.{List, [], ◌∷◌, ◌++◌, Option, Some, None, if◌then◌else◌}
use Rattle.expr_types.specs.ExprTree.{ExprTree, node, ExprTrees, no_exprs, an_expr}
use Rattle.expr_check.specs.Rules.{runs_input, split_by}
use Rattle.expr_check.specs.Splits.{Split}

-- the input of a parallel, with how its work is split
pub record PartTree : Type 0 where
  pub input : ExprTree
  pub split : Split

-- the first of several expressions
abbrev pub first_tree : ExprTrees → Option ExprTree
first_tree no_exprs = None
first_tree (an_expr e exprs) = Some e

-- the input of an expression that runs it
abbrev pub input_of : ExprTree → Option ExprTree
input_of (node op inputs) = if runs_input op then first_tree inputs else None

-- inputs of a parallel
abbrev pub parts_of : Split → ExprTrees → List PartTree
parts_of split no_exprs = []
parts_of split (an_expr e exprs) = record { input = e; split = split } ∷ parts_of split exprs

-- those of a parallel itself, or else those in its inputs
abbrev pub parts_at : Option Split → ExprTrees → List PartTree → List PartTree
parts_at None inputs inner = inner
parts_at (Some split) inputs inner = parts_of split inputs

-- the inputs of the outermost parallel calls, from the left to the right
abbrev mutual
  pub parallels_of : ExprTree → List PartTree
  parallels_of (node op inputs) = parts_at (split_by op) inputs (parallels_in inputs)

  -- the same in inputs
  pub parallels_in : ExprTrees → List PartTree
  parallels_in no_exprs = []
  parallels_in (an_expr e exprs) = parallels_of e ++ parallels_in exprs
