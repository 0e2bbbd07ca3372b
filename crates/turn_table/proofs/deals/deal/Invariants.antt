use Rattle.std.proofs.Common.{◌≡◌, [], drop, length, map, take}
use Rattle.std.specs.Prelude.{All}
use Rattle.turn_table.specs.Calls.{known, table_of}
use Rattle.turn_table.specs.Knowledge.{dealt, fresh}
use Rattle.turn_table.proofs.deals.deal.Given as goal

-- the first numbers have their passes, and the seat has the others
abbrev pub invariant-loop-number : goal.invariant-loop-number
invariant-loop-number g l = record {
  table : l.seat.table_id ≡ l.top.table_id;
  left : l.seat.me ≡ (
    dealt (map (fresh (map g.C.CellState.about l.top.key.cells.value)
        (map g.C.CellState.history l.top.key.cells.value) l.top.key.numbers.value
        (length l.top.key.cells.value)) (drop l.number-index l.numbers)),
    [],
  );
  made : map known l.passes.items ≡ map (fresh (map g.C.CellState.about l.top.key.cells.value)
      (map g.C.CellState.history l.top.key.cells.value) l.top.key.numbers.value
      (length l.top.key.cells.value)) (take l.number-index l.numbers);
  own : All (λ pass. table_of pass ≡ l.top.table_id) l.passes.items;
}
