use Rattle.std.proofs.Common.{◌≡◌, List, length, map, ap, sym, ◌∙◌}
use Rattle.std.proofs.lemmas.List.{length-map}
use Rattle.expr_types.specs.ExprTree.{ExprTree, node, merge, inputs_of, inputs_in}
use Rattle.expr_types.specs.ExprTree.{expr_tree, expr_step}
use Rattle.expr_types.specs.declared.expr.Expr.TheVariants as expr
use Rattle.expr_types.specs.declared.expr.Expr.TheFolds.{fold-roll-Expr}
use Rattle.expr_types.specs.declared.expr.Expr.TheOpen.{Expr-F}
use Rattle.expr_types.proofs.TreeLemmas.{expr_list-inputs_of}
use Rattle.expr_types.proofs.expr.Expr.input_count.Goals as goal

pub returns-in-Merge : goal.returns-in-Merge
returns-in-Merge c =
    let inputs = c.in-Merge.inputs in
    let on = c.in-Merge.on in
    let whole : expr_tree c.args.self.now ≡ node (merge on) (inputs_of (map expr_tree inputs.items)) =
    rw c.in-Merge.is (ap expr_tree (sym (expr.rolls-Merge inputs on))
    ∙ fold-roll-Expr ExprTree expr_step (Expr-F.Merge inputs on)) in
    let all : inputs_in (expr_tree c.args.self.now) ≡ map expr_tree inputs.items =
    ap inputs_in whole ∙ expr_list-inputs_of (map expr_tree inputs.items) in
    c.len.ensures ∙ inputs.ok.0
    ∙ sym (ap (λ (l : List ExprTree). length l) all ∙ length-map inputs.items expr_tree)
