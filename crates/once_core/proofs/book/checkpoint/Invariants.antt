use Rattle.std.proofs.Common.{◌≡◌, max, drop}
use Rattle.topic_book.specs.Books.{checkpoint}
use Rattle.once_core.proofs.book.checkpoint.Given as goal

-- the greater of what was stored so far and of what is to come
abbrev pub invariant-loop-entry : goal.invariant-loop-entry
invariant-loop-entry l =
    checkpoint l.key l.book l.shard ≡ max l.greatest (checkpoint l.key (drop l.entry-index l.book) l.shard)
