use Rattle.std.proofs.Common.{◌≡◌, drop}
use Rattle.topic_book.specs.Books.{is_above}
use Rattle.once_core.proofs.book.raises.Given as goal

-- a number to come is above, if one is
abbrev pub invariant-loop-shard : goal.invariant-loop-shard
invariant-loop-shard l = is_above l.key l.book 0 l.upto ≡ is_above l.key l.book l.shard (drop l.shard l.upto)
