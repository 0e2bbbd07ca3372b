use Rattle.std.proofs.Common.{◌∙◌, ap, sym, subst}
use Rattle.expr_types.specs.ExprTree.{expr_tree}
use Rattle.expr_types.specs.Lists.{list_of}
use Rattle.expr_types.specs.Planned.{IsPlanned}
use Rattle.expr_types.specs.declared.expr.Expr.{Expr}
use Rattle.expr_check.specs.Held.{IsFaultless}
use Rattle.expr_check.specs.Orders.{IsInOrder}
use Rattle.expr_check.specs.Walk.{order_of}
use Rattle.expr_check.specs.declared.order.Order.{Order}
use Rattle.expr_check.proofs.FaultLemmas.{faultless-own}
use Rattle.expr_check.proofs.LawLemmas.{holds_of}
use Rattle.expr_check.proofs.checked.Checked.order.Goals as goal

pub returns-clause-value : goal.returns-clause-value
returns-clause-value c =
    c.self.invariant.ordered ∙ ap (λ (e : Expr). order_of (expr_tree e)) c.self.view_is

pub returns-clause-ordered : goal.returns-clause-ordered
returns-clause-ordered c = λ plain docs.
    subst (λ (o : Order). IsInOrder o (list_of docs (expr_tree c.args.self.now)))
    (sym
    (c.self.invariant.ordered ∙ ap (λ (e : Expr). order_of (expr_tree e)) c.self.view_is))
    (holds_of docs (expr_tree c.args.self.now) plain
    (subst (λ (e : Expr). IsPlanned (expr_tree e)) c.self.view_is c.self.invariant.planned).0
    (faultless-own (expr_tree c.args.self.now)
    (subst (λ (e : Expr). IsFaultless (expr_tree e)) c.self.view_is
    c.self.invariant.faultless))).1
