-- The steps hold the writes so far.
use Rattle.stream_site.specs.Shares.{AreShares}
use Rattle.stream_site.proofs.routing.route.Given as goal

abbrev pub invariant-loop-write : goal.invariant-loop-write
invariant-loop-write l = AreShares l.writer l.shards l.yielded l.steps.items
