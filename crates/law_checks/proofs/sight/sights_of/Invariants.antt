use Rattle.std.proofs.Common.{◌≡◌, take}
use Rattle.law_checks.proofs.sight.sights_of.Given as goal

-- those so far
abbrev pub invariant-loop-history : goal.invariant-loop-history
invariant-loop-history l = l.sights.items ≡ take l.history-index l.shards
