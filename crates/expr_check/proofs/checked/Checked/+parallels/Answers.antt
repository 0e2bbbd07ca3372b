use Rattle.std.proofs.Common.{◌≡◌, Some, ap, sym, ◌∙◌, subst}
use Rattle.expr_types.specs.ExprTree.{expr_tree}
use Rattle.expr_types.specs.declared.expr.Expr.{Expr}
use Rattle.expr_check.specs.Held.{IsHeld}
use Rattle.expr_check.specs.Parts.{input_of, parallels_of}
use Rattle.expr_check.specs.declared.checked.Within.{Within}
use Rattle.expr_check.proofs.HoldLemmas.{run_parts}
use Rattle.expr_check.proofs.checked.Checked.+parallels.Goals as goal

pub returns-in-Input : goal.returns-in-Input
returns-in-Input t c =
    let whole = expr_tree c.self.inside.expr in
    let input = expr_tree c.in-Input.checked.value in
    let held : input_of whole ≡ Some input =
    subst (λ (w : Within). IsHeld w whole) c.in-Input.is c.self.invariant.held in
    c.parallels.ensures
    ∙ ap (λ (e : Expr). parallels_of (expr_tree e)) c.deref.ensures
    ∙ sym (run_parts whole input c.self.invariant.planned.0 held)
    ∙ ap (λ (e : Expr). parallels_of (expr_tree e)) c.self.view_is
