use Rattle.std.proofs.Common.{◌≡◌, ◌+◌, ◌-◌, ◌^◌, min, drop}
use Rattle.once_core.specs.Cells.{cell_of}
use Rattle.law_checks.proofs.cells.cell_of.Given as goal

-- the cells before, and those to come
abbrev pub invariant-loop-entry : goal.invariant-loop-entry
invariant-loop-entry l =
    min (cell_of l.names l.collection l.shard) (2 ^ 64 - 1)
    ≡ min (l.before + cell_of (drop l.entry-index l.names) l.collection l.shard) (2 ^ 64 - 1)
