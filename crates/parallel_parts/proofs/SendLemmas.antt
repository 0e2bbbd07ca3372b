-- What the workers of a parallel share, a cut and the checked input, and what goes to each.
use denote.Param.Send.{IsSend, IsSync, sendable}
use denote.Param.SendFields.{as_row_sync}
use Rattle.std.proofs.Crossing as heap
use Rattle.tuple_values.proofs.value.Tuple.TheLaws.TheKnot as tuples
use Rattle.query_syntax.proofs.query.Clauses.TheLaws.TheKnot as clauses
use Rattle.expr_types.proofs.condition.Condition.TheLaws.TheKnot as conditions
use Rattle.expr_types.proofs.expr.Expr.TheLaws.TheKnot as exprs
use Rattle.expr_check.proofs.checked.Checked.TheLaws.TheKnot as checked
use Rattle.sort_spec.specs.contracts.pair.OnPair as OnPair
use Rattle.sort_spec.specs.contracts.term.SortSpec as SortSpec
use Rattle.tuple_values.specs.contracts.sequence.Sequence as Sequence
use Rattle.tuple_values.specs.contracts.text.Text as Text
use Rattle.tuple_values.specs.contracts.value.Value as Value
use Rattle.query_syntax.specs.contracts.query.Query as Query
use Rattle.shard_segments.specs.contracts.chunks.Chunks as Chunks
use Rattle.shard_segments.specs.contracts.slot.Document as Document
use Rattle.shard_segments.specs.contracts.slot.Slot as Slot
use Rattle.shard_versions.specs.contracts.cut.CutPart as CutPart
use Rattle.shard_versions.specs.contracts.snapshot.Snapshot as Snapshot
use Rattle.expr_types.proofs.SendLemmas.{tuple_send}
use Rattle.expr_types.specs.contracts.condition.Condition as Condition
use Rattle.expr_types.specs.contracts.item.Item as Item
use Rattle.expr_types.specs.contracts.item.Metric as Metric
use Rattle.expr_types.specs.contracts.item.GroupOp as GroupOp
use Rattle.expr_types.specs.contracts.expr.Expr as Expr
use Rattle.stream_engine.proofs.SendLemmas.{tuple_sync, document_send}
use Rattle.expr_check.specs.contracts.order.Order as Order
use Rattle.expr_check.specs.contracts.checked.Checked as Checked
use Rattle.expr_check.specs.contracts.checked.ParallelPart as ParallelPart
use Rattle.parallel_parts.specs.contracts.work.Job as Job

-- what an expression is made of
text_sync : IsSync Text.the_row
text_sync = search (heap.crosses, sendable) depth 60 fits 20000

-- a cut, by what it is made of
document_sync : IsSync Document.the_row
document_sync = search (tuple_send, tuple_sync, heap.crosses, sendable) depth 60 fits 20000

slot_send : IsSend Slot.the_row
slot_send = search (document_send, heap.crosses, sendable) depth 60 fits 20000

slot_sync : IsSync Slot.the_row
slot_sync = search (document_sync, heap.crosses, sendable) depth 60 fits 20000

chunks_sync : IsSync Chunks.the_row
chunks_sync = search (slot_send, slot_sync, heap.crosses, sendable) depth 60 fits 20000

snapshot_sync : IsSync Snapshot.the_row
snapshot_sync = search (chunks_sync, heap.crosses, sendable) depth 60 fits 20000

cut_part_sync : IsSync CutPart.the_row
cut_part_sync = search (text_sync, snapshot_sync, heap.crosses, sendable) depth 60 fits 20000

pub cut_sync : IsSync (Sequence.the_row CutPart.the_row)
cut_sync = search (cut_part_sync, heap.crosses, sendable) depth 60 fits 20000

-- and values, queries and the like
value_sync : IsSync Value.the_row
value_sync = search (tuples.crosses, heap.crosses, sendable) depth 60 fits 20000

query_sync : IsSync Query.the_row
query_sync = search (clauses.crosses, text_sync, heap.crosses, sendable) depth 60 fits 20000

condition_sync : IsSync Condition.the_row
condition_sync =
    search (tuples.crosses, conditions.crosses, heap.crosses, sendable) depth 60 fits 20000

item_sync : IsSync Item.the_row
item_sync = search (text_sync, value_sync, heap.crosses, sendable) depth 60 fits 20000

metric_sync : IsSync Metric.the_row
metric_sync = search (text_sync, heap.crosses, sendable) depth 60 fits 20000

group_sync : IsSync GroupOp.the_row
group_sync = search (text_sync, heap.crosses, sendable) depth 60 fits 20000

order_sync : IsSync Order.the_row
order_sync = search (heap.crosses, sendable) depth 60 fits 20000

-- lists of these
names_sync : IsSync (Sequence.the_row Text.the_row)
names_sync = search (text_sync, heap.crosses, sendable) depth 60 fits 20000

sort_sync : IsSync SortSpec.the_row
sort_sync = search (text_sync, heap.crosses, sendable) depth 60 fits 20000

on_sync : IsSync (Sequence.the_row OnPair.the_row)
on_sync = search (text_sync, heap.crosses, sendable) depth 60 fits 20000

items_sync : IsSync (Sequence.the_row Item.the_row)
items_sync = search (item_sync, heap.crosses, sendable) depth 60 fits 20000

metrics_sync : IsSync (Sequence.the_row Metric.the_row)
metrics_sync = search (metric_sync, heap.crosses, sendable) depth 60 fits 20000

-- the expression
expr_field : IsSync (Expr.the_field).row
expr_field =
    exprs.sync-Expr text_sync
    (search (clauses.crosses, text_sync, heap.crosses, sendable) depth 60 fits 20000)
    names_sync sort_sync
    (search (heap.crosses, sendable) depth 60 fits 20000)
    (search (names_sync, heap.crosses, sendable) depth 60 fits 20000)
    tuple_sync
    (λ h s. search (heap.crosses, sendable) depth 60 fits 20000)
    items_sync
    (search (tuples.crosses, conditions.crosses, text_sync, heap.crosses, sendable) depth 60 fits 20000)
    (search (heap.crosses, sendable) depth 60 fits 20000)
    (λ h s. search (heap.crosses, sendable) depth 60 fits 20000)
    (search (text_sync, heap.crosses, sendable) depth 60 fits 20000)
    metrics_sync on_sync
    (search (heap.crosses, sendable) depth 60 fits 20000)
    (search (heap.crosses, sendable) depth 60 fits 20000)

expr_sync : IsSync Expr.the_row
expr_sync = as_row_sync Expr.the_field expr_field

-- what is kept of it
checked_sync : IsSync Checked.the_row
checked_sync =
    search (
      checked.crosses,
      exprs.crosses,
      tuples.crosses,
      clauses.crosses,
      conditions.crosses,
      text_sync,
      tuple_sync,
      query_sync,
      condition_sync,
      item_sync,
      metric_sync,
      group_sync,
      names_sync,
      expr_sync,
      order_sync,
      heap.crosses,
      sendable,
    ) depth 60 fits 20000

-- and with its workers and its sort
pub part_sync : IsSync ParallelPart.the_row
part_sync = search (checked.crosses, checked_sync, sort_sync, text_sync, heap.crosses, sendable) depth 60 fits 20000

-- what goes to another thread
pub job_send : IsSend Job.the_row
job_send = search (heap.crosses, sendable) depth 60 fits 20000
