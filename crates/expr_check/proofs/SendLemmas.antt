-- A checked expression may go to another thread.
use denote.Param.Send.{IsSend, sendable}
use Rattle.std.proofs.Crossing as heap
use Rattle.tuple_values.proofs.value.Tuple.TheLaws.TheKnot as tuples
use Rattle.query_syntax.proofs.query.Clauses.TheLaws.TheKnot as clauses
use Rattle.expr_types.proofs.condition.Condition.TheLaws.TheKnot as conditions
use Rattle.expr_types.proofs.expr.Expr.TheLaws.TheKnot as exprs
use Rattle.expr_types.proofs.SendLemmas.{text_send, tuple_send, query_send, condition_send, item_send, metric_send, group_send, expr_send}
use Rattle.expr_check.proofs.checked.Checked.TheLaws.TheKnot as checked
use Rattle.expr_check.specs.contracts.order.Order as Order
use Rattle.expr_check.specs.contracts.checked.Checked as Checked

-- what is found of an expression may
order_send : IsSend Order.the_row
order_send = search (heap.crosses, sendable) depth 60 fits 20000

-- so may what is kept of it
pub checked_send : IsSend Checked.the_row
checked_send =
    search (
      checked.crosses,
      exprs.crosses,
      tuples.crosses,
      clauses.crosses,
      conditions.crosses,
      text_send,
      tuple_send,
      query_send,
      condition_send,
      item_send,
      metric_send,
      group_send,
      expr_send,
      order_send,
      heap.crosses,
      sendable,
    ) depth 60 fits 20000
