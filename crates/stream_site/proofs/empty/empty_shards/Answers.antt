use Rattle.std.proofs.Common.{length, refl, sym, subst}
use Rattle.stream_site.specs.Logs.{AreEmpty}
use Rattle.stream_site.proofs.EmptyLemmas.{empty_long, empty_more, empty_all}
use Rattle.stream_site.proofs.empty.empty_shards.Goals as goal

pub loop-entry-preserved : goal.loop-entry-preserved
loop-entry-preserved c =
    let old = c.loop-entry.shards.items in
    let new = c.add_empty.new.shards.items in
    let a = c.in_ok-add_empty.ensures (length old) c.loop-entry.invariant.empty in
    record {
      counted = empty_more c.args.limit c.entry-item.result.shards c.args.names.now
          c.loop-entry.entry-index c.entry-item.result old new c.loop-entry-test.true
          c.entry-item.is refl c.loop-entry.invariant.counted a;
      empty = subst (λ k. AreEmpty c.args.limit k new) (sym (empty_long c.args.limit _ new a)) a;
    }

pub returns : goal.returns
returns c =
    empty_all c.args.limit c.args.names.now c.loop-entry.entry-index c.loop-entry.shards.items
    c.loop-entry-test.false c.loop-entry.invariant.counted c.loop-entry.invariant.empty
