use Rattle.std.proofs.Common.{◌<◌, ◌+◌, ◌++◌, ◌∙◌, refl, ap, sym, length, drop, arith}
use Rattle.expr_types.specs.ExprTree.{inputs_in, inputs_of, operator_in, expr_tree}
use Rattle.expr_check.specs.Rules.{order_given, fields_given}
use Rattle.expr_check.specs.Walk.{order_of, orders_of, fields_of, all_fields}
use Rattle.expr_check.proofs.WalkLemmas.{order_of-parts, fields_of-parts, inputs_more}
use Rattle.stream_engine.proofs.naming.+naming.Goals as goal

pub told_of_inputs-loop-k-preserved : goal.told_of_inputs-loop-k-preserved
told_of_inputs-loop-k-preserved t c =
    let inputs = inputs_in (expr_tree c.args.expr.now) in
    let lt : c.loop-k.k < length inputs = omega arith in
    let rest = inputs_of (drop (c.loop-k.k + 1) inputs) in
    let e = expr_tree c.input.result.now in
    let told = c.in_ok-told.told in
    record {
      orders =
          ap (λ w. w ++ orders_of rest) c.in_ok-push.ensures.items
          ∙ inputs_more order_of orders_of (λ e exprs. refl) inputs c.loop-k.k e
          c.loop-k.orders.items told.order lt (c.input.ensures.value _)
          c.in_ok-told.ensures.order c.loop-k.invariant.orders;
      fields =
          ap (λ w. w ++ all_fields rest) c.in_ok-push-2.ensures.items
          ∙ inputs_more fields_of all_fields (λ e exprs. refl) inputs c.loop-k.k e
          c.loop-k.fields.items told.fields lt (c.input.ensures.value _)
          c.in_ok-told.ensures.fields c.loop-k.invariant.fields;
    }

pub told_of-returns-clause-order : goal.told_of-returns-clause-order
told_of-returns-clause-order t c =
    let whole = expr_tree c.args.expr.now in
    c.in_ok-order.ensures
    ∙ ap (order_given (operator_in whole) c.in_ok-orders.field-0.orders.items)
    (c.as_slice.ensures.value ∙ c.in_ok-orders.ensures.fields)
    ∙ ap (λ orders. order_given (operator_in whole) orders
    (all_fields (inputs_of (inputs_in whole)))) c.in_ok-orders.ensures.orders
    ∙ sym (order_of-parts whole)

pub told_of-returns-clause-fields : goal.told_of-returns-clause-fields
told_of-returns-clause-fields t c =
    let whole = expr_tree c.args.expr.now in
    c.in_ok-fields.ensures
    ∙ ap (fields_given (operator_in whole)) c.in_ok-orders.ensures.fields
    ∙ sym (fields_of-parts whole)
