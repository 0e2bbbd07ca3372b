use Rattle.std.proofs.Common.{◌≡◌, map}
use Rattle.logged_cells.specs.Cells.{logs_in, value_of}
use Rattle.logged_cells.proofs.closed.into_parts.Given as goal

-- the parts of the cells so far
abbrev pub invariant-loop-cell : goal.invariant-loop-cell
invariant-loop-cell g l =
    (l.values ≡ map value_of l.yielded) × (l.logs ≡ logs_in l.yielded)
