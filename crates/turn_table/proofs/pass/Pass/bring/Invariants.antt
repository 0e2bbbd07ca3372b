use Rattle.std.proofs.Common.{◌≡◌, ◌<◌}
use Rattle.turn_table.specs.Carried.{times}
use Rattle.turn_table.proofs.CarriedLemmas.{before}
use Rattle.turn_table.proofs.pass.Pass.bring.Given as goal

-- the cell is among those that are held, and the pass knows what it knew
abbrev pub invariant-loop-first : goal.invariant-loop-first
invariant-loop-first g l = record {
  held : 0 < times l.cell l.self.held.items;
  known : l.self.seat.me.0 ≡ l.initial.self.seat.me.0;
  table : l.self.seat.table_id ≡ l.initial.self.seat.table_id;
}

abbrev pub decreases-loop-first : goal.decreases-loop-first
decreases-loop-first g l = before l.cell l.self.held.items
