-- The numbers of the shards so far are reached.
use Rattle.std.proofs.Common.{◌≡◌, ℕ, ◌<◌, ◌≤◌, List}
use Rattle.std.specs.Prelude.{slice_index}
use Rattle.tuple_values.specs.Document.{ByteList}
use Rattle.tuple_values.specs.declared.names.NameShards.{NameShards}
use Rattle.shard_versions.specs.Histories.{top}
use Rattle.topic_book.specs.Fitness.{shards_of}
use Rattle.once_core.specs.Cells.{shard_history}
use Rattle.exchange_rules.specs.Cells.{Log}
use Rattle.site_laws.specs.SiteCells.{histories_in}
use Rattle.case_items.specs.Stores.{ShowsAll}
use Rattle.case_items.proofs.storing.are_reached.Given as goal

abbrev pub invariant-loop-shard : goal.invariant-loop-shard
invariant-loop-shard l =
    (names : List NameShards) (seen : List Log) (src : ByteList) → ShowsAll names seen src l.cut
    → l.shards ≡ shards_of names src → (k : ℕ) → k < l.shard
    → slice_index l.upto k ≤ top (shard_history names (histories_in names seen) src k)
