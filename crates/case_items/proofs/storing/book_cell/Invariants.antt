-- The cells so far are counted.
use Rattle.std.proofs.Common.{◌≡◌, ◌+◌, drop}
use Rattle.topic_book.specs.Cells.{cells_in}
use Rattle.case_items.proofs.storing.book_cell.Given as goal

abbrev pub invariant-loop-entry : goal.invariant-loop-entry
invariant-loop-entry l =
    l.cell + cells_in (drop l.entry-index l.entry-items) ≡ cells_in l.names
