use Rattle.std.proofs.Common.{◌≡◌}
use Rattle.topic_book.specs.Raises.{raised_upto}
use Rattle.topic_book.proofs.topics.raised.Given as goal

-- the numbers so far are raised
abbrev pub invariant-loop-place : goal.invariant-loop-place
invariant-loop-place l = l.all.items ≡ raised_upto l.place l.initial.all.items l.upto
