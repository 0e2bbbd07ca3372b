-- What a checked expression is (own).
use Rattle.expr_types.specs.ExprTree.{ExprTree}
use Rattle.expr_types.specs.ExprTree.{expr_tree}
use Rattle.expr_types.specs.declared.expr.Expr.{Expr}
use Rattle.expr_check.specs.Parts.{PartTree}
use Rattle.expr_check.specs.declared.checked.Checked.{Checked}
use Rattle.expr_check.specs.declared.checked.ParallelPart.{ParallelPart}

-- the expression
abbrev pub expr_of : Checked → Expr
expr_of checked = checked

-- its tree
abbrev pub tree_of : Checked → ExprTree
tree_of checked = expr_tree checked

-- the input of a parallel, with how its work is split
abbrev pub part_tree : ParallelPart → PartTree
part_tree part = record {
  input = tree_of part.checked;
  split = record { workers = part.workers; sort = part.sort };
}
