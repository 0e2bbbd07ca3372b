-- What the threads of a load share, a checked expression and what is made of it, and what goes to
-- each.
use denote.RattleType.{RattleType}
use denote.Param.Send.{IsSend, IsSync, sendable}
use denote.Param.SendFields.{as_row_sync}
use Rattle.std.proofs.Crossing as heap
use Rattle.tuple_values.proofs.value.Tuple.TheLaws.TheKnot as tuples
use Rattle.query_syntax.proofs.query.Clauses.TheLaws.TheKnot as clauses
use Rattle.expr_types.proofs.condition.Condition.TheLaws.TheKnot as conditions
use Rattle.expr_types.proofs.expr.Expr.TheLaws.TheKnot as exprs
use Rattle.expr_check.proofs.checked.Checked.TheLaws.TheKnot as checked
use Rattle.atomic_table.proofs.shared.Seat.TheSendSync as seat
use Rattle.sort_spec.specs.contracts.pair.OnPair as OnPair
use Rattle.sort_spec.specs.contracts.term.SortSpec as SortSpec
use Rattle.tuple_values.specs.contracts.sequence.Sequence as Sequence
use Rattle.tuple_values.specs.contracts.text.Text as Text
use Rattle.tuple_values.specs.contracts.value.Tuple as Tuple
use Rattle.tuple_values.specs.contracts.value.Value as Value
use Rattle.expr_types.specs.contracts.item.Item as Item
use Rattle.expr_types.specs.contracts.item.Metric as Metric
use Rattle.expr_types.specs.contracts.expr.Expr as Expr
use Rattle.expr_check.specs.contracts.order.Order as Order
use Rattle.expr_check.specs.contracts.checked.Checked as Checked
use Rattle.disk_edge.specs.contracts.memory_disk.MemoryDisk as MemoryDisk
use Rattle.logged_cells.specs.contracts.logged_cell.LoggedCell as LoggedCell
use Rattle.turn_table.specs.contracts.pass.Pass as TablePass
use Rattle.running_site.proofs.SendLemmas.{cell_send}
use Rattle.running_site.specs.contracts.pass.PassOf as PassOf
use Rattle.load_mix.specs.contracts.work.Plan as Plan
use Rattle.load_mix.specs.contracts.worker.WorkerOf as WorkerOf

-- what an expression is made of
text_sync : IsSync Text.the_row
text_sync = search (heap.crosses, sendable) depth 60 fits 20000

tuple_sync : IsSync Tuple.the_row
tuple_sync = search (tuples.crosses, heap.crosses, sendable) depth 60 fits 20000

-- and values, queries and the like
value_sync : IsSync Value.the_row
value_sync = search (tuples.crosses, heap.crosses, sendable) depth 60 fits 20000

item_sync : IsSync Item.the_row
item_sync = search (text_sync, value_sync, heap.crosses, sendable) depth 60 fits 20000

metric_sync : IsSync Metric.the_row
metric_sync = search (text_sync, heap.crosses, sendable) depth 60 fits 20000

order_sync : IsSync Order.the_row
order_sync = search (heap.crosses, sendable) depth 60 fits 20000

-- lists of these
names_sync : IsSync (Sequence.the_row Text.the_row)
names_sync = search (text_sync, heap.crosses, sendable) depth 60 fits 20000

sort_sync : IsSync SortSpec.the_row
sort_sync = search (text_sync, heap.crosses, sendable) depth 60 fits 20000

on_sync : IsSync (Sequence.the_row OnPair.the_row)
on_sync = search (text_sync, heap.crosses, sendable) depth 60 fits 20000

items_sync : IsSync (Sequence.the_row Item.the_row)
items_sync = search (item_sync, heap.crosses, sendable) depth 60 fits 20000

metrics_sync : IsSync (Sequence.the_row Metric.the_row)
metrics_sync = search (metric_sync, heap.crosses, sendable) depth 60 fits 20000

-- the expression
expr_field : IsSync (Expr.the_field).row
expr_field =
    exprs.sync-Expr text_sync
    (search (clauses.crosses, text_sync, heap.crosses, sendable) depth 60 fits 20000)
    names_sync sort_sync
    (search (heap.crosses, sendable) depth 60 fits 20000)
    (search (names_sync, heap.crosses, sendable) depth 60 fits 20000)
    tuple_sync
    (λ h s. search (heap.crosses, sendable) depth 60 fits 20000)
    items_sync
    (search (tuples.crosses, conditions.crosses, text_sync, heap.crosses, sendable) depth 60 fits
    20000)
    (search (heap.crosses, sendable) depth 60 fits 20000)
    (λ h s. search (heap.crosses, sendable) depth 60 fits 20000)
    (search (text_sync, heap.crosses, sendable) depth 60 fits 20000)
    metrics_sync on_sync
    (search (heap.crosses, sendable) depth 60 fits 20000)
    (search (heap.crosses, sendable) depth 60 fits 20000)

expr_sync : IsSync Expr.the_row
expr_sync = as_row_sync Expr.the_field expr_field

-- what is kept of it
checked_sync : IsSync Checked.the_row
checked_sync =
    search (
      checked.crosses,
      exprs.crosses,
      tuples.crosses,
      clauses.crosses,
      conditions.crosses,
      text_sync,
      names_sync,
      expr_sync,
      order_sync,
      heap.crosses,
      sendable,
    ) depth 60 fits 20000

-- what all threads share
pub plan_sync : IsSync Plan.the_row
plan_sync = search (checked_sync, heap.crosses, sendable) depth 60 fits 20000

-- a pass of a site, whatever is told of its cells and of their entries
table_pass_send : (A E : RattleType) → IsSend (TablePass.the_row (LoggedCell.the_row MemoryDisk.the_row) A E)
table_pass_send A E =
    search (cell_send, seat.the_send, heap.crosses, sendable) depth 60 fits 20000

pub pass_send : (A E : RattleType)
    → IsSend (PassOf.the_row (TablePass.the_row (LoggedCell.the_row MemoryDisk.the_row) A E))
pass_send A E = search (table_pass_send, heap.crosses, sendable) depth 60 fits 20000

-- a worker, by what it holds
pub worker_send : (P : RattleType) → IsSend P → IsSend (WorkerOf.the_row P)
worker_send P p = search sendable depth 60 fits 20000
