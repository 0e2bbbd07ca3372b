use Rattle.std.proofs.Common.{arith, subst}
use Rattle.std.specs.List.{concat}
use Rattle.stream_handler.specs.Chunkings.{Adds}
use Rattle.stream_handler.specs.Replies.{Puts, WritesSome}
use Rattle.stream_handler.proofs.ReplyLemmas.{part_broken, part_made, part_over, part_put}
use Rattle.stream_handler.proofs.reply.write_docs.Goals as goal

pub returns-then-not-more-clause-writes : goal.returns-then-not-more-clause-writes
returns-then-not-more-clause-writes g c =
    let old = g.K.Sink.written c.args.sink.now in
    let mid = g.K.Sink.written c.loop-more.sink in
    let new = g.K.Sink.written c.put_all.new.sink in
    let before = c.loop-more.docs.0 in
    let after = c.add_next.new.self.0 in
    let made = c.loop-more.bytes in
    let more = c.add_next.new.out in
    part_over (concat c.args.docs.now.0) old mid made before c.loop-more.invariant.part after more
    new c.put_all.result
    (subst (λ m. Adds before m after made more) c.if-not-more.true c.in-Ok.ensures.next)
    (subst (λ t. Puts t mid new c.put_all.result) c.as_slice.ensures c.put_all.ensures.writes)

pub returns-in-Some-clause-writes : goal.returns-in-Some-clause-writes
returns-in-Some-clause-writes g c =
    let all = concat c.args.docs.now.0 in
    let old = g.K.Sink.written c.args.sink.now in
    let mid = g.K.Sink.written c.loop-more.sink in
    let new = g.K.Sink.written c.put_many.new.sink in
    let before = c.loop-more.docs.0 in
    let after = c.add_next.new.self.0 in
    let made = c.loop-more.bytes in
    let more = c.add_next.new.out in
    part_broken all old mid more (concat after)
    (part_made all old mid made before c.loop-more.invariant.part after more
    (subst (λ m. Adds before m after made more) c.if-not-more.false c.in-Ok.ensures.next))
    c.put_many.new.bytes new c.in-Some.end c.in-Some.ensures.writes

pub loop-more-preserved : goal.loop-more-preserved
loop-more-preserved g c =
    let all = concat c.args.docs.now.0 in
    let old = g.K.Sink.written c.args.sink.now in
    let mid = g.K.Sink.written c.loop-more.sink in
    let new = g.K.Sink.written c.put_many.new.sink in
    let before = c.loop-more.docs.0 in
    let after = c.add_next.new.self.0 in
    let made = c.loop-more.bytes in
    let more = c.add_next.new.out in
    let kept = c.put_many.new.bytes in
    record {
      part = part_put all old mid more (concat after)
          (part_made all old mid made before c.loop-more.invariant.part after more
          (subst (λ m. Adds before m after made more) c.if-not-more.false c.in-Ok.ensures.next))
          kept new
          (subst (λ r. WritesSome more kept mid new r) c.in_default-put_many.is
          c.put_many.ensures.writes);
      counts = omega (arith, c.loop-more.invariant.counts, c.put_many.ensures.counts.stays);
    }
