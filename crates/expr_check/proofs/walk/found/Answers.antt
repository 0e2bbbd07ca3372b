use Rattle.std.proofs.Common.{◌∙◌, List, Option, ap, sym}
use Rattle.std.specs.Option.{option_or}
use Rattle.tuple_values.specs.Document.{ByteList}
use Rattle.expr_types.specs.ExprTree.{expr_tree, inputs_in, inputs_of, operator_in}
use Rattle.expr_types.specs.Names.{function_name}
use Rattle.expr_check.specs.Rules.{fields_given}
use Rattle.expr_check.specs.Walk.{unkeyed, keyless_in}
use Rattle.expr_check.proofs.WalkLemmas.{order_of-parts, fields_of-parts}
use Rattle.expr_check.proofs.WalkLemmas.{keys_of-parts, keyless_of-parts}
use Rattle.expr_check.proofs.walk.found.Goals as goal

pub returns-clause-order : goal.returns-clause-order
returns-clause-order c =
    cc (
      c.in_ok-order.ensures.order,
      c.requires.orders,
      c.requires.fields,
      order_of-parts (expr_tree c.args.expr.now),
    )

pub returns-clause-fields : goal.returns-clause-fields
returns-clause-fields c =
    let whole = expr_tree c.args.expr.now in
    c.in_ok-order.ensures.fields
    ∙ ap (fields_given (operator_in whole)) c.requires.fields
    ∙ sym (fields_of-parts whole)

pub returns-clause-keys : goal.returns-clause-keys
returns-clause-keys c =
    cc (
      c.in_ok-order.ensures.keys,
      c.requires.fields,
      c.requires.keys,
      keys_of-parts (expr_tree c.args.expr.now),
    )

pub returns-clause-keyless : goal.returns-clause-keyless
returns-clause-keyless c =
    let whole = expr_tree c.args.expr.now in
    let function = function_name (operator_in whole) in
    c.in_ok-order.ensures.keyless
    ∙ ap
    (λ (first : Option ByteList). option_or first (unkeyed function c.in_ok-order.field-0.keys))
    c.requires.keyless
    ∙ ap
    (λ (keys : Option (List ByteList)).
    option_or (keyless_in (inputs_of (inputs_in whole))) (unkeyed function keys))
    (returns-clause-keys c)
    ∙ sym (keyless_of-parts whole)
