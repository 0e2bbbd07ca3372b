use Rattle.std.proofs.Common.{◌≡◌, ◌++◌, [], replicate, drop}
use Rattle.once_core.specs.Cells.{cells_in}
use Rattle.once_core.proofs.turn.empty_cells.Given as goal

-- what is there, and what is to come
abbrev pub invariant-loop-entry : goal.invariant-loop-entry
invariant-loop-entry l = replicate (cells_in l.names) [] ≡ l.cells ++ replicate (cells_in (drop l.entry-index l.names)) []
