use Rattle.std.proofs.Common.{subst}
use Rattle.expr_types.specs.ExprTree.{expr_tree}
use Rattle.expr_types.specs.Planned.{IsPlanned}
use Rattle.expr_types.specs.declared.expr.Expr.{Expr}
use Rattle.expr_check.specs.Held.{IsFaultless}
use Rattle.expr_check.proofs.FaultLemmas.{faultless-own}
use Rattle.expr_check.proofs.LawLemmas.{holds_of}
use Rattle.expr_check.proofs.checked.Checked.expr.Goals as goal

pub returns-clause-planned : goal.returns-clause-planned
returns-clause-planned c =
    subst (λ (e : Expr). IsPlanned (expr_tree e)) c.self.view_is c.self.invariant.planned

pub returns-clause-placed : goal.returns-clause-placed
returns-clause-placed c =
    subst (λ (e : Expr). IsFaultless (expr_tree e)) c.self.view_is c.self.invariant.faultless

pub returns-clause-faultless : goal.returns-clause-faultless
returns-clause-faultless c =
    faultless-own (expr_tree c.args.self.now)
    (subst (λ (e : Expr). IsFaultless (expr_tree e)) c.self.view_is c.self.invariant.faultless)

pub returns-clause-sorted : goal.returns-clause-sorted
returns-clause-sorted c = λ plain docs.
    let t = expr_tree c.args.self.now in
    (holds_of docs t plain
    (subst (λ (e : Expr). IsPlanned (expr_tree e)) c.self.view_is c.self.invariant.planned).0
    (faultless-own t
    (subst (λ (e : Expr). IsFaultless (expr_tree e)) c.self.view_is
    c.self.invariant.faultless))).0
