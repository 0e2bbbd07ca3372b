use Rattle.std.proofs.Common.{◌≡◌, ◌++◌, map, drop}
use Rattle.source_streams.specs.Batches.{items_of}
use Rattle.source_streams.specs.Founds.{item_found}
use Rattle.source_streams.proofs.batch.all_new.Given as goal

-- those found, and those to be found in the parts to come, are all
abbrev pub invariant-loop-part : goal.invariant-loop-part
invariant-loop-part l =
    map item_found l.found.items
    ++ items_of l.q.clauses l.collection l.above (drop l.part-index l.cut)
    ≡ items_of l.q.clauses l.collection l.above l.cut
