use Rattle.std.proofs.Common.{◌≡◌, take}
use Rattle.disk_edge.specs.Stops.{synced_count}
use Rattle.disk_edge.proofs.change.synced.Given as goal

-- how many of the calls so far are on the disk
abbrev pub invariant-loop-at : goal.invariant-loop-at
invariant-loop-at l = l.synced ≡ synced_count (take l.at l.calls)
