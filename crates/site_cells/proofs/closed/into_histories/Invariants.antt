use Rattle.std.proofs.Common.{◌≡◌, map}
use Rattle.site_cells.proofs.CellLemmas.{history_at}
use Rattle.site_cells.proofs.closed.into_histories.Given as goal

-- the histories of the cells that were gone over
abbrev pub invariant-loop-value : goal.invariant-loop-value
invariant-loop-value l = l.shards ≡ map history_at l.yielded
