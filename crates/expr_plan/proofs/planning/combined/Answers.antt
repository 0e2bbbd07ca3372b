use Rattle.std.proofs.Common.{◌≡◌, List, ◌++◌, map, ap, subst, ◌∙◌}
use Rattle.std.proofs.lemmas.List.{map-append}
use Rattle.std.specs.Result.{IfOk}
use Rattle.expr_types.specs.ExprTree.{ExprTree, node, inputs_of, expr_tree}
use Rattle.expr_plan.specs.Arguments.{walked}
use Rattle.expr_plan.specs.Operators.{operator_of}
use Rattle.expr_plan.proofs.planning.combined.Goals as goal

pub returns : goal.returns
returns c =
    let both = ap (map expr_tree) c.in_ok-append.ensures.items
    ∙ map-append expr_tree c.args.inputs.items c.args.keyed.items in
    subst
    (λ (l : List ExprTree).
    IfOk c.expression.result
    (λ e. expr_tree e ≡ node (operator_of c.args.function (walked c.args.params)) (inputs_of l)))
    both c.expression.ensures
