use Rattle.std.proofs.Common.{◌<◌, [], sym, ap, ◌∙◌, subst, arith}
use Rattle.tuple_values.specs.Keys.{shard_of}
use Rattle.exchange_rules.specs.Deliveries.{sent_kinds}
use Rattle.stream_site.specs.Shares.{AreRouted}
use Rattle.stream_site.proofs.ShareLemmas.{items_push, routed_none, sent_is}
use Rattle.stream_site.proofs.routing.route_batch.Goals as goal

pub loop-item-init : goal.loop-item-init
loop-item-init c =
    subst (AreRouted c.args.writer c.args.shards []) (sym c.in_ok-steps.ensures)
    (routed_none c.args.writer c.args.shards)

pub loop-item-preserved : goal.loop-item-preserved
loop-item-preserved c =
    let home = c.shard_of-shard.ensures in
    let lt : c.shard_of-shard.result < c.args.shards = omega (arith, home, c.requires) in
    let at = home ∙ ap (shard_of c.args.shards) c.id_of.ensures in
    subst (AreRouted c.args.writer c.args.shards (sent_kinds c.args.src.now _))
    (sym c.in_ok-add.ensures)
    (items_push c.args.writer c.args.shards c.args.src.now c.loop-item.yielded c.in-Some.item
    c.loop-item.steps.items c.shard_of-shard.result c.sent-entry.result c.loop-item.invariant at lt
    (sent_is c.args.writer c.args.src.now c.in_ok-src.src c.in-Some.item c.sent-entry.result
    c.in_ok-src.ensures c.sent-entry.ensures))
