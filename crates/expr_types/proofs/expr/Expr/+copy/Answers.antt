use Rattle.std.proofs.Common.{◌≡◌, ◌<◌, ◌∙◌, ap, subst, length, List, map, IfOk, arith}
use Rattle.std.proofs.lemmas.List.{take_all}
use Rattle.expr_types.specs.ExprTree.{ExprTree, node, operator_in, inputs_in, inputs_of}
use Rattle.expr_types.specs.ExprTree.{expr_tree}
use Rattle.expr_types.specs.declared.expr.Expr.{Expr}
use Rattle.expr_types.proofs.CopyLemmas.{copies_more}
use Rattle.expr_types.proofs.TreeLemmas.{node-parts}
use Rattle.expr_types.proofs.expr.Expr.+copy.Goals as goal

pub loop-k-preserved : goal.loop-k-preserved
loop-k-preserved t c =
    let inputs = inputs_in (expr_tree c.args.self.now) in
    let k = c.loop-k.k in
    let d = expr_tree c.input.result.now in
    let lt : k < length inputs = omega arith in
    ap (λ (l : List Expr). map expr_tree l) c.in_ok-push.ensures.items
    ∙ copies_more c.loop-k.inputs.items c.in_ok-copy.field-0 inputs k d lt c.loop-k.invariant
    (c.in_ok-copy.ensures ∙ c.input.ensures.value d)

pub returns : goal.returns
returns t c =
    let whole = expr_tree c.args.self.now in
    let inputs = inputs_in whole in
    let all = c.loop-k.invariant ∙ take_all c.loop-k.k inputs (omega arith) in
    subst (λ (w : ExprTree). IfOk c.over.result (λ copy. expr_tree copy ≡ w))
    (ap (λ (l : List ExprTree). node (operator_in whole) (inputs_of l)) all ∙ node-parts whole)
    c.over.ensures
