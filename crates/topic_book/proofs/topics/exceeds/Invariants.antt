use Rattle.std.proofs.Common.{◌≡◌, drop}
use Rattle.topic_book.specs.Raises.{exceeds}
use Rattle.topic_book.proofs.topics.exceeds.Given as goal

-- what exceeds stands among the rest
abbrev pub invariant-loop-place : goal.invariant-loop-place
invariant-loop-place l = exceeds l.numbers l.upto ≡ exceeds (drop l.place l.numbers) (drop l.place l.upto)
