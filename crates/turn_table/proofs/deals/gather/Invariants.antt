use Rattle.std.proofs.Common.{◌≡◌, ◌++◌, [], map}
use Rattle.std.specs.Prelude.{All}
use Rattle.turn_table.specs.Calls.{known, table_of}
use Rattle.turn_table.specs.Knowledge.{passes_of, IsFree}
use Rattle.turn_table.proofs.deals.gather.Given as goal

-- the seat has taken in the passes so far, and the others are of this table and free
abbrev pub invariant-loop-pass : goal.invariant-loop-pass
invariant-loop-pass g l = record {
  table : l.seat.table_id ≡ l.top.table_id;
  empty : l.seat.me.1 ≡ [];
  taken : passes_of l.seat.me.0 ≡ passes_of l.initial.seat.me.0 ++ map known l.yielded;
  idle : All IsFree (passes_of l.seat.me.0);
  own : All (λ pass. table_of pass ≡ l.top.table_id) l.pass-iterator.rest.items;
  free : All (λ pass. IsFree (known pass)) l.pass-iterator.rest.items;
}
