-- A stream may go to another thread.
use denote.Param.Send.{IsSend, IsSync, sendable}
use denote.Param.SendFields.{variants_send}
use Rattle.std.proofs.Crossing as heap
use Rattle.tuple_values.proofs.value.Tuple.TheLaws.TheKnot as tuples
use Rattle.expr_types.proofs.condition.Condition.TheLaws.TheKnot as conditions
use Rattle.tuple_values.specs.contracts.value.Tuple as Tuple
use Rattle.shard_segments.specs.contracts.slot.Document as Document
use Rattle.source_streams.specs.contracts.search.SearchCursor as SearchCursor
use Rattle.source_streams.specs.contracts.tuple_once.TupleOnce as TupleOnce
use Rattle.row_kernels.specs.contracts.having.HavingKernel as HavingKernel
use Rattle.row_kernels.specs.contracts.select.SelectKernel as SelectKernel
use Rattle.order_kernels.specs.contracts.merge_state.MergeKernel as MergeKernel
use Rattle.order_kernels.specs.contracts.sort.SortKernel as SortKernel
use Rattle.order_kernels.specs.contracts.top_state.TopKernel as TopKernel
use Rattle.group_kernels.specs.contracts.reduce.ReduceKernel as ReduceKernel
use Rattle.group_kernels.specs.contracts.rollup.RollupKernel as RollupKernel
use Rattle.group_kernels.specs.contracts.unique.UniqueKernel as UniqueKernel
use Rattle.merge_join.specs.contracts.exist.ExistKernel as ExistKernel
use Rattle.merge_join.specs.contracts.join.JoinKernel as JoinKernel
use Rattle.hash_join.specs.contracts.join.HashJoinKernel as HashJoinKernel
use Rattle.expr_types.proofs.SendLemmas.{text_send, tuple_send, items_send}
use Rattle.stream_engine.specs.contracts.any_kernel.AnyKernel as AnyKernel
use Rattle.stream_engine.specs.contracts.fed.Fed as Fed
use Rattle.stream_engine.specs.contracts.stream.Stream as Stream
use Rattle.stream_engine.proofs.stream.Stream.TheLaws.TheKnot as streams

-- a document may, which others share
pub tuple_sync : IsSync Tuple.the_row
tuple_sync = search (tuples.crosses, heap.crosses, sendable) depth 60 fits 20000

pub document_send : IsSend Document.the_row
document_send = search (tuple_send, tuple_sync, heap.crosses, sendable) depth 60 fits 20000

-- and so a search's cursor
pub cursor_send : IsSend SearchCursor.the_row
cursor_send = search (document_send, text_send, heap.crosses, sendable) depth 60 fits 20000

-- and one tuple
pub once_send : IsSend TupleOnce.the_row
once_send = search (tuples.crosses, heap.crosses, sendable) depth 60 fits 20000

-- and a list
pub fed_send : IsSend Fed.the_row
fed_send = search (tuples.crosses, heap.crosses, sendable) depth 60 fits 20000

-- and each kernel
pub having_send : IsSend HavingKernel.the_row
having_send = search (tuple_send, tuples.crosses, conditions.crosses, heap.crosses, sendable) depth 60 fits 20000

pub select_send : IsSend SelectKernel.the_row
select_send = search (items_send, tuple_send, heap.crosses, sendable) depth 60 fits 20000

pub merge_send : IsSend MergeKernel.the_row
merge_send = search (tuples.crosses, heap.crosses, sendable) depth 60 fits 20000

pub sort_send : IsSend SortKernel.the_row
sort_send = search (tuples.crosses, heap.crosses, sendable) depth 60 fits 20000

pub top_send : IsSend TopKernel.the_row
top_send = search (tuples.crosses, heap.crosses, sendable) depth 60 fits 20000

pub reduce_send : IsSend ReduceKernel.the_row
reduce_send = search (tuples.crosses, heap.crosses, sendable) depth 60 fits 20000

pub rollup_send : IsSend RollupKernel.the_row
rollup_send = search (tuples.crosses, heap.crosses, sendable) depth 60 fits 20000

pub unique_send : IsSend UniqueKernel.the_row
unique_send = search (tuples.crosses, heap.crosses, sendable) depth 60 fits 20000

pub join_send : IsSend JoinKernel.the_row
join_send = search (tuples.crosses, heap.crosses, sendable) depth 60 fits 20000

pub exist_send : IsSend ExistKernel.the_row
exist_send = search (tuples.crosses, heap.crosses, sendable) depth 60 fits 20000

pub hash_send : IsSend HashJoinKernel.the_row
hash_send = search (text_send, tuple_send, tuples.crosses, heap.crosses, sendable) depth 60 fits 20000

pub kernel_send : IsSend AnyKernel.the_row
kernel_send =
    variants_send AnyKernel.enum (
      (select_send, tt),
      (
        (having_send, tt),
        (
          (sort_send, tt),
          (
            (top_send, tt),
            (
              (merge_send, tt),
              (
                (unique_send, tt),
                (
                  (reduce_send, tt),
                  ((rollup_send, tt), ((join_send, tt), ((exist_send, tt), ((hash_send, tt), tt)))),
                ),
              ),
            ),
          ),
        ),
      ),
    )

-- and so a stream
pub stream_send : IsSend Stream.the_row
stream_send =
    search (cursor_send, once_send, fed_send, kernel_send, streams.crosses, heap.crosses, sendable) depth 60
    fits 20000
