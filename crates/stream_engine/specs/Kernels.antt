-- The members of the kernels' law at any kernel (own).
use Rattle.std.specs.Prelude.{ℕ, Bool, List}
use Rattle.tuple_values.specs.Document.{Doc}
use Rattle.kernel_laws.specs.Rests.{Rests}
use Rattle.row_kernels.specs.SelectState as select
use Rattle.row_kernels.specs.HavingState as having
use Rattle.order_kernels.specs.SortState as sort
use Rattle.order_kernels.specs.TopState as top
use Rattle.order_kernels.specs.MergeState as merge
use Rattle.group_kernels.specs.UniqueState as unique
use Rattle.group_kernels.specs.ReduceState as reduce
use Rattle.group_kernels.specs.RollupState as rollup
use Rattle.merge_join.specs.JoinState as join
use Rattle.merge_join.specs.ExistState as exist
use Rattle.hash_join.specs.HashState as hash
use Rattle.stream_engine.specs.declared.any_kernel.AnyKernel.{AnyKernel}
use Rattle.stream_engine.specs.declared.any_kernel.AnyKernel.TheVariants.{Select, Having, Sort, Top}
use Rattle.stream_engine.specs.declared.any_kernel.AnyKernel.TheVariants.{Merge, Unique}
use Rattle.stream_engine.specs.declared.any_kernel.AnyKernel.TheVariants.{Reduce, Rollup}
use Rattle.stream_engine.specs.declared.any_kernel.AnyKernel.TheVariants.{Join, Exist, Hash}

-- for each input whether it has ended
unfoldable pub any_ended : AnyKernel → List Bool
any_ended (Select k) = select.ended k
any_ended (Having k) = having.ended k
any_ended (Sort k) = sort.ended k
any_ended (Top k) = top.ended k
any_ended (Merge k) = merge.ended k
any_ended (Unique k) = unique.ended k
any_ended (Reduce k) = reduce.ended k
any_ended (Rollup k) = rollup.ended k
any_ended (Join k) = join.ended k
any_ended (Exist k) = exist.ended k
any_ended (Hash k) = hash.ended k

-- the next tuple of this input may be fed
unfoldable pub any_waits : AnyKernel → ℕ → Type 0
any_waits (Select k) i = select.waits k i
any_waits (Having k) i = having.waits k i
any_waits (Sort k) i = sort.waits k i
any_waits (Top k) i = top.waits k i
any_waits (Merge k) i = merge.waits k i
any_waits (Unique k) i = unique.waits k i
any_waits (Reduce k) i = reduce.waits k i
any_waits (Rollup k) i = rollup.waits k i
any_waits (Join k) i = join.waits k i
any_waits (Exist k) i = exist.waits k i
any_waits (Hash k) i = hash.waits k i

-- the rests go on with inputs that are in the order that the kernel asks of them
unfoldable pub any_ready : AnyKernel → Rests → Type 0
any_ready (Select k) rests = select.ready k rests
any_ready (Having k) rests = having.ready k rests
any_ready (Sort k) rests = sort.ready k rests
any_ready (Top k) rests = top.ready k rests
any_ready (Merge k) rests = merge.ready k rests
any_ready (Unique k) rests = unique.ready k rests
any_ready (Reduce k) rests = reduce.ready k rests
any_ready (Rollup k) rests = rollup.ready k rests
any_ready (Join k) rests = join.ready k rests
any_ready (Exist k) rests = exist.ready k rests
any_ready (Hash k) rests = hash.ready k rests

-- what is still to be emitted, where these rests are still to come
unfoldable pub any_out : AnyKernel → Rests → List Doc
any_out (Select k) rests = select.out k rests
any_out (Having k) rests = having.out k rests
any_out (Sort k) rests = sort.out k rests
any_out (Top k) rests = top.out k rests
any_out (Merge k) rests = merge.out k rests
any_out (Unique k) rests = unique.out k rests
any_out (Reduce k) rests = reduce.out k rests
any_out (Rollup k) rests = rollup.out k rests
any_out (Join k) rests = join.out k rests
any_out (Exist k) rests = exist.out k rests
any_out (Hash k) rests = hash.out k rests

-- nothing is left to be emitted
unfoldable pub any_over : AnyKernel → Type 0
any_over (Select k) = select.over k
any_over (Having k) = having.over k
any_over (Sort k) = sort.over k
any_over (Top k) = top.over k
any_over (Merge k) = merge.over k
any_over (Unique k) = unique.over k
any_over (Reduce k) = reduce.over k
any_over (Rollup k) = rollup.over k
any_over (Join k) = join.over k
any_over (Exist k) = exist.over k
any_over (Hash k) = hash.over k

-- memory was wanting
unfoldable pub any_failed : AnyKernel → Bool
any_failed (Select k) = select.failed k
any_failed (Having k) = having.failed k
any_failed (Sort k) = sort.failed k
any_failed (Top k) = top.failed k
any_failed (Merge k) = merge.failed k
any_failed (Unique k) = unique.failed k
any_failed (Reduce k) = reduce.failed k
any_failed (Rollup k) = rollup.failed k
any_failed (Join k) = join.failed k
any_failed (Exist k) = exist.failed k
any_failed (Hash k) = hash.failed k
