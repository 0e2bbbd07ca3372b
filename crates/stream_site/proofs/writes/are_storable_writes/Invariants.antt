-- Each write so far can be kept.
use Rattle.std.proofs.Common.{take}
use Rattle.exchange_rules.specs.Steps.{AreStorableWrites}
use Rattle.stream_site.proofs.writes.are_storable_writes.Given as goal

abbrev pub invariant-loop-write : goal.invariant-loop-write
invariant-loop-write l = AreStorableWrites (take l.write-index l.write-items)
