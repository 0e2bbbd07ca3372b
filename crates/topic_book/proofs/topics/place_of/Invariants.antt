use Rattle.std.proofs.Common.{◌≡◌, ◌+◌, drop}
use Rattle.topic_book.specs.Raises.{place_of}
use Rattle.topic_book.proofs.topics.place_of.Given as goal

-- its place is that among the rest, counted from here
abbrev pub invariant-loop-place : goal.invariant-loop-place
invariant-loop-place l = place_of l.key l.topics ≡ l.place + place_of l.key (drop l.place l.topics)
