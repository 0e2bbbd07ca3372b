-- The collection isn't among the names so far, and their cells are counted.
use Rattle.std.proofs.Common.{◌≡◌, ◌+◌, drop}
use Rattle.topic_book.specs.Cells.{cells_in, cell_of}
use Rattle.stream_site.proofs.place.first_cell.Given as goal

abbrev pub invariant-loop-entry : goal.invariant-loop-entry
invariant-loop-entry l = record {
  found : cell_of l.names l.collection 0
      ≡ l.cell + cell_of (drop l.entry-index l.entry-items) l.collection 0;
  counted : l.cell + cells_in (drop l.entry-index l.entry-items) ≡ cells_in l.names;
}
