use Rattle.std.proofs.Common.{◌≡◌, take}
use Rattle.law_checks.proofs.written.written_of.Given as goal

-- those so far
abbrev pub invariant-loop-history : goal.invariant-loop-history
invariant-loop-history l = l.written.items ≡ take l.history-index l.shards
