use Rattle.std.proofs.Common.{◌∙◌, ap, sym, subst, refl, inl, inr}
use Rattle.expr_types.specs.ExprTree.{ExprTree, expr_step, expr_tree}
use Rattle.expr_types.specs.ExprTree.{in_parallel, update, commit, daemon}
use Rattle.expr_types.specs.declared.expr.Expr.{Expr}
use Rattle.expr_types.specs.declared.expr.Expr.TheVariants as expr
use Rattle.expr_types.specs.declared.expr.Expr.TheFolds.{fold-roll-Expr}
use Rattle.expr_types.specs.declared.expr.Expr.TheOpen.{Expr-F}
use Rattle.expr_check.specs.Held.{IsFound}
use Rattle.expr_check.proofs.HoldLemmas.{input_found}
use Rattle.expr_check.proofs.holding.hold.Goals as goal

pub checked_input-requires : goal.checked_input-requires
checked_input-requires c =
    let p = c.in-Parallel in
    let walked = c.args.inputs.now in
    let withins = c.args.withins.items in
    let tree =
    ap expr_tree (p.is ∙ sym (expr.rolls-Parallel p.input p.collection p.workers p.sort))
    ∙ fold-roll-Expr ExprTree expr_step (Expr-F.Parallel p.input p.collection p.workers p.sort) in
    subst (λ (e : Expr). IsFound walked withins (expr_tree e)) (sym c.deref.ensures)
    (input_found (in_parallel p.collection p.workers p.sort) (expr_tree c.args.expr.now)
    (expr_tree p.input.value) walked withins c.requires tree refl)

pub checked_input-requires-in-Update : goal.checked_input-requires-in-Update
checked_input-requires-in-Update c =
    let whole = expr_tree c.args.expr.now in
    let input = c.in-Update.input in
    let walked = c.args.inputs.now in
    let withins = c.args.withins.items in
    subst (λ (e : Expr). IsFound walked withins (expr_tree e)) (sym c.deref-in-Update.ensures)
    (elim (c.in-Update.is) [
      | inl u ↦
          input_found (update u.0 u.1) whole (expr_tree input.value) walked withins c.requires
          (ap expr_tree (u.2 ∙ sym (expr.rolls-Update input u.0 u.1))
          ∙ fold-roll-Expr ExprTree expr_step (Expr-F.Update input u.0 u.1))
          refl
      | inr rest ↦ elim rest [
        | inl k ↦
            input_found (commit k.0 k.1) whole (expr_tree input.value) walked withins c.requires
            (ap expr_tree (k.2 ∙ sym (expr.rolls-Commit input k.0 k.1))
            ∙ fold-roll-Expr ExprTree expr_step (Expr-F.Commit input k.0 k.1))
            refl
        | inr d ↦
            input_found (daemon d.0 d.1 d.2) whole (expr_tree input.value) walked withins
            c.requires
            (ap expr_tree (d.3 ∙ sym (expr.rolls-Daemon input d.0 d.1 d.2))
            ∙ fold-roll-Expr ExprTree expr_step (Expr-F.Daemon input d.0 d.1 d.2))
            refl
      ]
    ])
