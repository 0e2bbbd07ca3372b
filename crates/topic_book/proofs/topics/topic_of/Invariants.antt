use Rattle.std.proofs.Common.{◌≡◌, drop}
use Rattle.topic_book.specs.Raises.{topic_of}
use Rattle.topic_book.proofs.topics.topic_of.Given as goal

-- the topic is among the rest
abbrev pub invariant-loop-topic : goal.invariant-loop-topic
invariant-loop-topic l = topic_of l.key l.topics ≡ topic_of l.key (drop l.topic-index l.topics)
