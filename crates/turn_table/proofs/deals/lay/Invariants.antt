use Rattle.std.proofs.Common.{◌≡◌, ◌∷◌, map, Some}
use Rattle.turn_table.specs.Histories.{words_of}
use Rattle.turn_table.proofs.deals.lay.Given as goal

-- the words and the slots of the cells so far
abbrev pub invariant-loop-cell : goal.invariant-loop-cell
invariant-loop-cell g l =
    (l.words.items
    ≡ 0 ∷ words_of g.C.CellState.history g.C.CellState.fault_count l.yielded)
    × (l.slots.items ≡ map Some l.yielded)
