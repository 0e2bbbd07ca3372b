use Rattle.std.proofs.Common.{◌≡◌, take}
use Rattle.disk_edge.specs.Calls.{content}
use Rattle.disk_edge.proofs.change.replayed.Given as goal

-- the content after the calls so far
abbrev pub invariant-loop-call : goal.invariant-loop-call
invariant-loop-call l = l.bytes ≡ content l.first (take l.call-index l.calls)
