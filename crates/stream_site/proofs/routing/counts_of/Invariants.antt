-- The counts of the steps so far.
use Rattle.std.proofs.Common.{◌≡◌, take, map, length}
use Rattle.stream_site.proofs.routing.counts_of.Given as goal

abbrev pub invariant-loop-step : goal.invariant-loop-step
invariant-loop-step l = l.counts.items ≡ map length (take l.step-index l.steps)
