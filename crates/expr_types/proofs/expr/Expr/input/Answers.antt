use Rattle.std.proofs.Common.{◌≡◌, ◌<◌, List, length, map, ap, sym, ◌∙◌, subst, arith}
use Rattle.std.proofs.lemmas.List.{length-map, get_or-map}
use Rattle.expr_types.specs.ExprTree.{ExprTree, node, merge, inputs_of, inputs_in}
use Rattle.expr_types.specs.Heights.{height}
use Rattle.expr_types.specs.ExprTree.{expr_tree, expr_step}
use Rattle.expr_types.specs.declared.expr.Expr.TheVariants as expr
use Rattle.expr_types.specs.declared.expr.Expr.TheFolds.{fold-roll-Expr}
use Rattle.expr_types.specs.declared.expr.Expr.TheOpen.{Expr-F}
use Rattle.expr_types.proofs.TreeLemmas.{expr_list-inputs_of, input_lower}
use Rattle.expr_types.proofs.expr.Expr.input.Goals as goal

pub index-requires : goal.index-requires
index-requires c =
    let inputs = c.in-Merge.inputs in
    let on = c.in-Merge.on in
    let whole : expr_tree c.args.self.now ≡ node (merge on) (inputs_of (map expr_tree inputs.items)) =
    rw c.in-Merge.is (ap expr_tree (sym (expr.rolls-Merge inputs on))
    ∙ fold-roll-Expr ExprTree expr_step (Expr-F.Merge inputs on)) in
    let all : inputs_in (expr_tree c.args.self.now) ≡ map expr_tree inputs.items =
    ap inputs_in whole ∙ expr_list-inputs_of (map expr_tree inputs.items) in
    let many = ap (λ (l : List ExprTree). length l) all ∙ length-map inputs.items expr_tree in
    omega (arith, c.requires, many, inputs.ok.0)

pub returns-in-Merge-clause-value : goal.returns-in-Merge-clause-value
returns-in-Merge-clause-value c = λ d.
    let inputs = c.in-Merge.inputs in
    let on = c.in-Merge.on in
    let whole : expr_tree c.args.self.now ≡ node (merge on) (inputs_of (map expr_tree inputs.items)) =
    rw c.in-Merge.is (ap expr_tree (sym (expr.rolls-Merge inputs on))
    ∙ fold-roll-Expr ExprTree expr_step (Expr-F.Merge inputs on)) in
    let all : inputs_in (expr_tree c.args.self.now) ≡ map expr_tree inputs.items =
    ap inputs_in whole ∙ expr_list-inputs_of (map expr_tree inputs.items) in
    let many = ap (λ (l : List ExprTree). length l) all ∙ length-map inputs.items expr_tree in
    let lt : c.args.k < length inputs.items = omega (arith, c.requires, many) in
    rw all (ap expr_tree c.index.ensures
    ∙ sym (get_or-map expr_tree inputs.items c.args.k c.index.result.now d lt))

pub returns-in-Merge-clause-lower : goal.returns-in-Merge-clause-lower
returns-in-Merge-clause-lower c =
    let value = returns-in-Merge-clause-value c in
    let d = expr_tree c.index.result.now in
    subst (λ (t : ExprTree). height t < height (expr_tree c.args.self.now)) (sym (value d))
    (input_lower (expr_tree c.args.self.now) c.args.k d c.requires)
