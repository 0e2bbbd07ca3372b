-- The steps hold the items so far.
use Rattle.exchange_rules.specs.Deliveries.{sent_kinds}
use Rattle.stream_site.specs.Shares.{AreRouted}
use Rattle.stream_site.proofs.routing.route_batch.Given as goal

abbrev pub invariant-loop-item : goal.invariant-loop-item
invariant-loop-item l =
    AreRouted l.writer l.shards (sent_kinds l.src l.yielded) l.steps.items
