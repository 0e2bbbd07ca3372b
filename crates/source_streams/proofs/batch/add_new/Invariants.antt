use Rattle.std.proofs.Common.{◌≡◌, ◌++◌, map, drop}
use Rattle.source_streams.specs.Batches.{new_items}
use Rattle.source_streams.specs.Founds.{item_found}
use Rattle.source_streams.proofs.batch.add_new.Given as goal

-- those found, and those to be found among the documents to come, are all
abbrev pub invariant-loop-k : goal.invariant-loop-k
invariant-loop-k l =
    map item_found l.found.items
    ++ new_items l.q.clauses l.low l.shard (drop l.k l.snapshot.documents)
    ≡ map item_found l.fn.found.items
    ++ new_items l.q.clauses l.low l.shard l.snapshot.documents
