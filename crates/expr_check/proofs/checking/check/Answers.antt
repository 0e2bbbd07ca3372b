use Rattle.tuple_values.specs.Collections.{is_known}
use Rattle.std.proofs.Common.{◌≡◌, None, subst}
use Rattle.expr_types.specs.ExprTree.{expr_tree}
use Rattle.expr_check.specs.Places.{at_root}
use Rattle.expr_check.specs.Walk.{fault_of}
use Rattle.expr_check.specs.declared.roots.Roots.{Roots}
use Rattle.expr_check.proofs.FaultLemmas.{fault_where-there, fault_where-plain}
use Rattle.expr_check.proofs.checking.check.Goals as goal

pub new-requires-clause-faultless : goal.new-requires-clause-faultless
new-requires-clause-faultless c = record {
  roots = c.args.roots;
  place = at_root;
  is_there = λ name. is_known name c.args.names.now;
  none = c.in_ok-order.ensures.ok;
}

pub returns-clause-stands : goal.returns-clause-stands
returns-clause-stands c =
    fault_where-there c.args.roots at_root (λ name. is_known name c.args.names.now)
    (expr_tree c.args.expr) c.in_ok-order.ensures.ok

pub returns-clause-plain : goal.returns-clause-plain
returns-clause-plain c = λ is.
    let t = expr_tree c.args.expr in
    fault_where-plain at_root (λ name. is_known name c.args.names.now) t
    (subst (λ (r : Roots). fault_of r c.args.names.now t ≡ None) is c.in_ok-order.ensures.ok)
