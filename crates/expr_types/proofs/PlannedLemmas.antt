-- That an expression may be checked is a proposition.
use Rattle.std.specs.Coded.{Coded-set, coded_ℕ, coded_bool, coded_result, ×_prop, Unit-prop}
use Rattle.std.specs.Coded.{le_prop}
use Rattle.query_syntax.specs.Codes.{clauses_code}
use Rattle.expr_types.specs.ExprTree.{ExprTree, node, ExprTrees, no_exprs, an_expr}
use Rattle.expr_types.specs.Planned.{AreWell, AreAllWell, IsPlanned}
use Rattle.expr_types.specs.Rules.{Source, searched, literal, followed, no_source}
use Rattle.expr_types.specs.Rules.{rule_of, IsReadAs}

-- that what is kept of a text is read from it is a proposition
IsReadAs-prop : (source : Source) → IsProp (IsReadAs source)
IsReadAs-prop (searched p) = Unit-prop
IsReadAs-prop (literal fields) = Unit-prop
IsReadAs-prop (followed p) = Coded-set (coded_result clauses_code coded_ℕ) _ _
IsReadAs-prop no_source = Unit-prop

mutual
  -- so is that each operator is as a plan gives it
  pub AreWell-prop : (t : ExprTree) → IsProp (AreWell t)
  AreWell-prop (node op inputs) =
      ×_prop (Coded-set coded_bool _ _) (×_prop (IsReadAs-prop (rule_of op).source) (AreAllWell-prop inputs))

  -- and of inputs
  pub AreAllWell-prop : (ts : ExprTrees) → IsProp (AreAllWell ts)
  AreAllWell-prop no_exprs = Unit-prop
  AreAllWell-prop (an_expr t ts) = ×_prop (AreWell-prop t) (AreAllWell-prop ts)

-- and that it may be checked
pub IsPlanned-prop : (t : ExprTree) → IsProp (IsPlanned t)
IsPlanned-prop t = ×_prop (AreWell-prop t) le_prop
