use Rattle.once_core.proofs.TurnLemmas.{cells_more, cells_all}
use Rattle.once_core.proofs.turn.empty_cells.Goals as goal

pub loop-entry-preserved : goal.loop-entry-preserved
loop-entry-preserved c =
    rw c.in_ok-push_empty.ensures
    (cells_more c.args.names.now c.loop-entry.entry-index c.entry-item.result c.loop-entry.cells
    c.loop-entry-test.true c.entry-item.is c.loop-entry.invariant)

pub returns : goal.returns
returns c = cells_all c.args.names.now c.loop-entry.entry-index c.loop-entry.cells c.loop-entry-test.false c.loop-entry.invariant
