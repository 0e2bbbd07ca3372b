use Rattle.std.proofs.Common.{ℕ, ◌-◌, ◌≡◌, ◌<◌, ◌≤◌, false, get_or, length, map, take, Some, vec_capacity}
use Rattle.std.specs.Slots.{slots_filled, slots_items, slots_len}
use Rattle.std.specs.Slots.Ownership.{Filled}
use Rattle.turn_table.proofs.deals.unload.Given as goal

-- the values of the first slots are in the list
abbrev pub invariant-loop-cell : goal.invariant-loop-cell
invariant-loop-cell g l = record {
  low : l.cell ≤ l.cells;
  same : (slots_items l.closed.slots ≡ slots_items l.initial.closed.slots)
      × (slots_len l.closed.slots ≡ slots_len l.initial.closed.slots);
  full : Filled (slots_filled l.closed.slots) l.cell (slots_len l.closed.slots);
  empty : (k : ℕ) → k < l.cell → get_or (slots_filled l.closed.slots) k false ≡ false;
  room : (length l.room.items ≡ l.cell) × (l.cells ≤ vec_capacity l.room);
  values : map Some l.room.items ≡ take l.cell (slots_items l.initial.closed.slots);
}

abbrev pub decreases-loop-cell : goal.decreases-loop-cell
decreases-loop-cell g l = l.cells - l.cell
