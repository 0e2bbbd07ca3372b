-- The shards of the collections so far are there.
use Rattle.std.proofs.Common.{◌≡◌, ◌+◌, drop, length}
use Rattle.topic_book.specs.Cells.{cells_in}
use Rattle.stream_site.specs.Logs.{AreEmpty}
use Rattle.stream_site.proofs.empty.empty_shards.Given as goal

abbrev pub invariant-loop-entry : goal.invariant-loop-entry
invariant-loop-entry l = record {
  counted : length l.shards.items + cells_in (drop l.entry-index l.names) ≡ cells_in l.names;
  empty : AreEmpty l.limit (length l.shards.items) l.shards.items;
}
