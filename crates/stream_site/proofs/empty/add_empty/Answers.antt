use Rattle.std.proofs.Common.{arith}
use Rattle.stream_site.proofs.EmptyLemmas.{empty_push}
use Rattle.stream_site.proofs.empty.add_empty.Goals as goal

pub loop-preserved : goal.loop-preserved
loop-preserved c = λ before a.
    empty_push c.args.limit _ _ c.loop.shards.items c.push.new.self.items c.empty.result
    (c.loop.invariant before a) c.empty.ensures.entries c.empty.ensures.limit
    c.in_ok-push.ensures.items (omega arith)
