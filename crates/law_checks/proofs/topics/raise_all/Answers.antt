use Rattle.std.proofs.Common.{refl, slice_index}
use Rattle.law_checks.proofs.TopicLemmas.{stored-begins, stored-more, stored-ends}
use Rattle.law_checks.proofs.topics.raise_all.Goals as goal

pub loop-shard-init : goal.loop-shard-init
loop-shard-init c = λ other shard. stored-begins c.args.key.now c.args.upto.now c.args.stored.now other shard

pub loop-shard-preserved : goal.loop-shard-preserved
loop-shard-preserved c =
    stored-more c.args.key.now c.args.upto.now c.args.stored.now c.loop-shard.stored c.raise.new.self c.as_str.result.now
    c.as_str-in-loop-shard.result.now c.loop-shard.shard (slice_index c.args.upto.now c.loop-shard.shard) c.as_str.ensures
    c.as_str-in-loop-shard.ensures refl c.in_ok-raise.ensures c.loop-shard.invariant

pub returns : goal.returns
returns c = λ other shard.
    stored-ends c.args.key.now c.args.upto.now c.args.stored.now other shard c.loop-shard.shard _ c.loop-shard-test.false
    (c.loop-shard.invariant other shard)
