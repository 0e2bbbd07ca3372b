use Rattle.std.proofs.Common.{◌≡◌, ◌++◌, map, drop}
use Rattle.source_streams.specs.Batches.{cut_item}
use Rattle.source_streams.specs.Founds.{item_found}
use Rattle.source_streams.proofs.batch.cut_all.Given as goal

-- the items so far, and those that are left, are all
abbrev pub invariant-loop-item : goal.invariant-loop-item
invariant-loop-item l =
    l.batch ++ map (cut_item l.names) (map item_found (drop l.item-index l.found))
    ≡ map (cut_item l.names) (map item_found l.found)
