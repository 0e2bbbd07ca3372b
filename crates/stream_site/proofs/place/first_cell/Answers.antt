use Rattle.std.proofs.Common.{sym, ap, true, false, arith}
use Rattle.topic_book.specs.Cells.{cell_of, cells_in}
use Rattle.stream_site.proofs.PlaceLemmas.{cell_here, cells_here, cell_end, name_test}
use Rattle.stream_site.proofs.place.first_cell.Goals as goal

pub loop-entry-init : goal.loop-entry-init
loop-entry-init c =
    let items = c.as_slice-entry-items.result.now in
    let e = sym c.as_slice-entry-items.ensures in
    let cell = ap (λ x. cell_of x c.args.collection.now 0) e in
    let cells = ap cells_in e in
    record { found = omega (arith, cell); counted = omega (arith, cells) }

pub returns-then-eq : goal.returns-then-eq
returns-then-eq c =
    let is_named = name_test c.entry-item.result.name c.as_str.result.now c.args.collection.now true
    c.eq.result c.as_str.ensures c.eq.ensures c.if-eq.true in
    let here = cell_here c.as_slice-entry-items.result.now c.args.collection.now
    c.loop-entry.entry-index c.entry-item.result true c.loop-entry-test.true c.entry-item.is
    is_named in
    let found = c.loop-entry.invariant.found in
    omega (arith, here, found)

pub loop-entry-preserved : goal.loop-entry-preserved
loop-entry-preserved c =
    let is_named = name_test c.entry-item.result.name c.as_str.result.now
    c.args.collection.now false
    c.eq.result c.as_str.ensures c.eq.ensures c.if-eq.false in
    let here = cell_here c.as_slice-entry-items.result.now c.args.collection.now
    c.loop-entry.entry-index c.entry-item.result false c.loop-entry-test.true c.entry-item.is
    is_named in
    let cells = cells_here c.as_slice-entry-items.result.now c.loop-entry.entry-index
    c.entry-item.result c.loop-entry-test.true c.entry-item.is in
    let shards = c.from-cell.ensures in
    let found = c.loop-entry.invariant.found in
    let counted = c.loop-entry.invariant.counted in
    record {
      found = omega (arith, here, found, shards);
      counted = omega (arith, cells, counted, shards);
    }

pub returns : goal.returns
returns c =
    let end = cell_end c.as_slice-entry-items.result.now c.args.collection.now
    c.loop-entry.entry-index c.loop-entry-test.false in
    let found = c.loop-entry.invariant.found in
    omega (arith, end, found)

pub overflow_add-cell : goal.overflow_add-cell
overflow_add-cell c =
    let cells = cells_here c.as_slice-entry-items.result.now c.loop-entry.entry-index
    c.entry-item.result c.loop-entry-test.true c.entry-item.is in
    let shards = c.from-cell.ensures in
    let counted = c.loop-entry.invariant.counted in
    omega (arith, cells, counted, shards, c.requires)
