use Rattle.expr_types.specs.Rules.{Collections}
use Rattle.source_streams.specs.Cuts.{documents_of}
use Rattle.parallel_parts.proofs.WorkLemmas.{split_more, lists_more}
use Rattle.parallel_parts.proofs.evaluating.fed_lists.Goals as goal

pub fed_list-requires-after_bounds : goal.fed_list-requires-after_bounds
fed_list-requires-after_bounds g c κs bounds =
    (split_more c.args.parts.now c.loop-part.part-index c.part-item.result
    c.loop-part-test.true c.part-item.is c.loop-part.invariant.split).0

pub loop-part-preserved : goal.loop-part-preserved
loop-part-preserved g c =
    let docs : Collections = λ n. documents_of n c.args.cut.now in
    let parts = c.args.parts.now in
    let k = c.loop-part.part-index in
    let part = c.part-item.result in
    record {
      split =
          (split_more parts k part c.loop-part-test.true c.part-item.is c.loop-part.invariant.split).1;
      lists =
          lists_more docs parts k part c.loop-part.feeds.items c.push.new.self.items _
          c.loop-part-test.true c.part-item.is c.in_ok-push.ensures.items
          c.in_ok-fed_list.ensures c.loop-part.invariant.lists;
    }
