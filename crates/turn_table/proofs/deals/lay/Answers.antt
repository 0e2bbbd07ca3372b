use Rattle.turn_table.proofs.StartLemmas.{laid, slots_laid}
use Rattle.turn_table.proofs.deals.lay.Goals as goal

pub loop-cell-preserved : goal.loop-cell-preserved
loop-cell-preserved g c = let l = c.loop-cell in (
  laid g.C.CellState.history g.C.CellState.fault_count l.yielded c.in-Some.cell l.words.items
      c.push-in-loop-cell.new.self.items c.push-in-loop-cell-2.new.self.items
      c.push-in-loop-cell-3.new.self.items c.len-in-loop-cell.result
      c.faults.result l.invariant.0 c.in_ok-push-2.ensures.items
      c.len-in-loop-cell.ensures c.in_ok-push-3.ensures.items
      c.faults.ensures c.in_ok-push-4.ensures.items,
  slots_laid l.yielded c.in-Some.cell l.slots.items c.push-in-loop-cell-4.new.self.items
      l.invariant.1 c.in_ok-push-5.ensures.items,
)
