use Rattle.std.proofs.Common.{◌<◌, [], sym, subst, arith}
use Rattle.stream_site.specs.Shares.{AreShares}
use Rattle.stream_site.proofs.ShareLemmas.{shares_push, routed_none}
use Rattle.stream_site.proofs.routing.route.Goals as goal

pub loop-write-init : goal.loop-write-init
loop-write-init c =
    subst (AreShares c.args.writer c.args.shards []) (sym c.in_ok-steps.ensures)
    (routed_none c.args.writer c.args.shards)

pub loop-write-preserved : goal.loop-write-preserved
loop-write-preserved c =
    let home = c.home_of-shard.ensures in
    let lt : c.home_of-shard.result < c.args.shards = omega (arith, home, c.requires) in
    subst (AreShares c.args.writer c.args.shards _) (sym c.in_ok-add.ensures)
    (shares_push c.args.writer c.args.shards c.loop-write.yielded c.in-Some.write
    c.loop-write.steps.items c.home_of-shard.result c.entry_of.result c.loop-write.invariant home
    lt c.entry_of.ensures)
