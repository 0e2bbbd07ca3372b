use Rattle.std.proofs.Common.{◌≡◌, drop}
use Rattle.once_core.specs.Cells.{place_of}
use Rattle.once_core.proofs.cells.place_of.Given as goal

-- the place is to come
abbrev pub invariant-loop-collection : goal.invariant-loop-collection
invariant-loop-collection l = place_of l.names l.cell ≡ place_of (drop l.collection-index l.names) l.left
