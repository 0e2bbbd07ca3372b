use Rattle.std.proofs.Common.{◌≡◌, ℕ}
use Rattle.topic_book.specs.declared.topic.TopicKey.{TopicKey}
use Rattle.law_checks.specs.Topics.{stored_at}
use Rattle.law_checks.proofs.TopicLemmas.{stored_with}
use Rattle.law_checks.proofs.topics.raise_all.Given as goal

-- the first so many numbers were told
abbrev pub invariant-loop-shard : goal.invariant-loop-shard
invariant-loop-shard l =
    (other : TopicKey) (shard : ℕ) → stored_at l.stored other shard ≡ stored_with l.key l.upto l.shard l.fn.stored other shard
