use Rattle.std.proofs.Common.{◌≡◌, ◌∙◌, ap}
use Rattle.topic_book.specs.Books.{checkpoint}
use Rattle.law_checks.specs.Topics.{stored_at}
use Rattle.law_checks.proofs.UncoveredLemmas.{shard-here, shard-on, shard-end}
use Rattle.law_checks.proofs.uncovered.first_shard.Goals as goal

pub returns-then-not-fine : goal.returns-then-not-fine
returns-then-not-fine c = λ hs same are.
    let number : c.checkpoint-upto.result ≡ checkpoint c.args.key.now hs.book c.loop-shard.shard =
    c.checkpoint-upto.ensures ∙ (ap (stored_at c.args.stored.now c.args.key.now) c.from.ensures ∙ are c.args.key.now c.loop-shard.shard) in
    shard-here c.args.against.names.now hs c.args.key.now c.args.bound.binding.now c.loop-shard.shard c.checkpoint-upto.result number
    c.shards_of-shard-end.result c.as_str.result.now c.shards_of-shard-end.ensures c.as_str.ensures c.loop-shard-test.true
    c.in_ok-fine.fine (c.in_ok-fine.ensures hs same) c.if-not-fine.true (c.loop-shard.invariant hs same are)

pub loop-shard-preserved : goal.loop-shard-preserved
loop-shard-preserved c = λ hs same are.
    let number : c.checkpoint-upto.result ≡ checkpoint c.args.key.now hs.book c.loop-shard.shard =
    c.checkpoint-upto.ensures ∙ (ap (stored_at c.args.stored.now c.args.key.now) c.from.ensures ∙ are c.args.key.now c.loop-shard.shard) in
    shard-on c.args.against.names.now hs c.args.key.now c.args.bound.binding.now c.loop-shard.shard c.checkpoint-upto.result number
    c.in_ok-fine.fine (c.in_ok-fine.ensures hs same) c.if-not-fine.false (c.loop-shard.invariant hs same are)

pub returns : goal.returns
returns c = λ hs same are.
    shard-end c.args.against.names.now hs c.args.key.now c.args.bound.binding.now c.shards_of-shard-end.result c.loop-shard.shard
    c.as_str.result.now c.shards_of-shard-end.ensures c.as_str.ensures c.loop-shard-test.false (c.loop-shard.invariant hs same are)
