use Rattle.std.proofs.Common.{take, drop}
use Rattle.law_checks.specs.Walks.{IsWalked}
use Rattle.law_checks.proofs.walk.shown_in.Given as goal

-- the entries from this place on were walked
abbrev pub invariant-loop-at : goal.invariant-loop-at
invariant-loop-at l = IsWalked l.walk (take l.at l.entries) (drop l.at l.entries)
