use Rattle.std.proofs.Common.{◌≡◌, drop}
use Rattle.topic_book.specs.Fitness.{shards_of}
use Rattle.law_checks.proofs.cells.shards_of.Given as goal

-- the collection is to come
abbrev pub invariant-loop-entry : goal.invariant-loop-entry
invariant-loop-entry l = shards_of l.names l.collection ≡ shards_of (drop l.entry-index l.names) l.collection
