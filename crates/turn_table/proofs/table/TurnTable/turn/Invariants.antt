use Rattle.std.proofs.Common.{ℕ, ◌≡◌, ◌≤◌, get_or}
use Rattle.turn_table.specs.Knowledge.{waited}
use Rattle.turn_table.proofs.table.TurnTable.turn.Given as goal

-- the pass has found the turn taken some times, and knows else what it knew
abbrev pub invariant-loop : goal.invariant-loop
invariant-loop g l = record {
  table : l.pass.seat.table_id ≡ l.initial.pass.seat.table_id;
  known : (m : ℕ) × (get_or l.initial.pass.seat.me.0.pass.met l.cell 0 ≤ m)
      × (l.pass.seat.me.0.pass ≡ waited l.cell m l.initial.pass.seat.me.0.pass);
  faults : l.pass.seat.me.0.faults ≡ l.initial.pass.seat.me.0.faults;
}
