-- What is kept is what is admitted of the entries so far.
use Rattle.std.proofs.Common.{◌≡◌}
use Rattle.shard_versions.specs.Deliveries.{admitted}
use Rattle.stream_site.proofs.delivery.admitted.Given as goal

abbrev pub invariant-loop-entry : goal.invariant-loop-entry
invariant-loop-entry l = l.kept ≡ admitted l.shard.entries l.yielded
