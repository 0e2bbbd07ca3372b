-- An expression may go to another thread.
use denote.Param.Send.{IsSend, sendable}
use denote.Param.SendFields.{as_row_send}
use Rattle.std.proofs.Crossing as heap
use Rattle.tuple_values.proofs.value.Tuple.TheLaws.TheKnot as tuples
use Rattle.query_syntax.proofs.query.Clauses.TheLaws.TheKnot as clauses
use Rattle.expr_types.proofs.condition.Condition.TheLaws.TheKnot as conditions
use Rattle.expr_types.proofs.expr.Expr.TheLaws.TheKnot as exprs
use Rattle.sort_spec.specs.contracts.pair.OnPair as OnPair
use Rattle.sort_spec.specs.contracts.term.SortSpec as SortSpec
use Rattle.tuple_values.specs.contracts.sequence.Sequence as Sequence
use Rattle.tuple_values.specs.contracts.text.Text as Text
use Rattle.tuple_values.specs.contracts.value.Tuple as Tuple
use Rattle.tuple_values.specs.contracts.value.Value as Value
use Rattle.query_syntax.specs.contracts.query.Query as Query
use Rattle.expr_types.specs.contracts.condition.Condition as Condition
use Rattle.expr_types.specs.contracts.item.Item as Item
use Rattle.expr_types.specs.contracts.item.Metric as Metric
use Rattle.expr_types.specs.contracts.item.GroupOp as GroupOp
use Rattle.expr_types.specs.contracts.expr.Expr as Expr

-- what an expression is made of may
pub text_send : IsSend Text.the_row
text_send = search (heap.crosses, sendable) depth 60 fits 20000

pub tuple_send : IsSend Tuple.the_row
tuple_send = search (tuples.crosses, heap.crosses, sendable) depth 60 fits 20000

pub value_send : IsSend Value.the_row
value_send = search (tuples.crosses, heap.crosses, sendable) depth 60 fits 20000

pub query_send : IsSend Query.the_row
query_send = search (clauses.crosses, text_send, heap.crosses, sendable) depth 60 fits 20000

pub condition_send : IsSend Condition.the_row
condition_send =
    search (tuples.crosses, conditions.crosses, heap.crosses, sendable) depth 60 fits 20000

pub item_send : IsSend Item.the_row
item_send = search (text_send, value_send, heap.crosses, sendable) depth 60 fits 20000

pub metric_send : IsSend Metric.the_row
metric_send = search (text_send, heap.crosses, sendable) depth 60 fits 20000

pub group_send : IsSend GroupOp.the_row
group_send = search (text_send, heap.crosses, sendable) depth 60 fits 20000

-- lists of these
pub names_send : IsSend (Sequence.the_row Text.the_row)
names_send = search (text_send, heap.crosses, sendable) depth 60 fits 20000

pub sort_send : IsSend SortSpec.the_row
sort_send = search (text_send, heap.crosses, sendable) depth 60 fits 20000

pub on_send : IsSend (Sequence.the_row OnPair.the_row)
on_send = search (text_send, heap.crosses, sendable) depth 60 fits 20000

pub items_send : IsSend (Sequence.the_row Item.the_row)
items_send = search (item_send, heap.crosses, sendable) depth 60 fits 20000

pub metrics_send : IsSend (Sequence.the_row Metric.the_row)
metrics_send = search (metric_send, heap.crosses, sendable) depth 60 fits 20000

-- so may the expression
expr_field : IsSend (Expr.the_field).row
expr_field =
    exprs.send-Expr text_send
    (search (clauses.crosses, text_send, heap.crosses, sendable) depth 60 fits 20000)
    names_send sort_send
    (search (heap.crosses, sendable) depth 60 fits 20000)
    (search (names_send, heap.crosses, sendable) depth 60 fits 20000)
    tuple_send
    (λ h s. search (heap.crosses, sendable) depth 60 fits 20000)
    items_send
    (search (tuples.crosses, conditions.crosses, text_send, heap.crosses, sendable)
    depth 60 fits 20000)
    (search (heap.crosses, sendable) depth 60 fits 20000)
    (λ h s. search (heap.crosses, sendable) depth 60 fits 20000)
    (search (text_send, heap.crosses, sendable) depth 60 fits 20000)
    metrics_send on_send
    (search (heap.crosses, sendable) depth 60 fits 20000)
    (search (heap.crosses, sendable) depth 60 fits 20000)

pub expr_send : IsSend Expr.the_row
expr_send = as_row_send Expr.the_field expr_field
