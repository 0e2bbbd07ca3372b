use Rattle.std.proofs.Common.{sym, ap, arith}
use Rattle.topic_book.specs.Cells.{cells_in}
use Rattle.stream_site.proofs.PlaceLemmas.{cells_here, cells_end}
use Rattle.case_items.proofs.storing.book_cell.Goals as goal

pub loop-entry-init : goal.loop-entry-init
loop-entry-init c =
    let cells = ap cells_in (sym c.as_slice-entry-items.ensures) in omega (arith, cells)

pub loop-entry-preserved : goal.loop-entry-preserved
loop-entry-preserved c =
    let cells = cells_here c.as_slice-entry-items.result.now c.loop-entry.entry-index
    c.entry-item.result c.loop-entry-test.true c.entry-item.is in
    let shards = c.from-cell.ensures in
    let counted = c.loop-entry.invariant in
    omega (arith, cells, counted, shards)

pub overflow_add-cell : goal.overflow_add-cell
overflow_add-cell c =
    let cells = cells_here c.as_slice-entry-items.result.now c.loop-entry.entry-index
    c.entry-item.result c.loop-entry-test.true c.entry-item.is in
    let shards = c.from-cell.ensures in
    let counted = c.loop-entry.invariant in
    omega (arith, cells, counted, shards, c.requires)

pub returns : goal.returns
returns c =
    let end = cells_end c.as_slice-entry-items.result.now c.loop-entry.entry-index
    c.loop-entry-test.false in
    let counted = c.loop-entry.invariant in
    omega (arith, end, counted)
