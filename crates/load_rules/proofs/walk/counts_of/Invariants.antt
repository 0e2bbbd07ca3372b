use Rattle.std.proofs.Common.{drop}
use Rattle.load_rules.specs.Walks.{IsLow, IsWalked}
use Rattle.load_rules.proofs.walk.counts_of.Given as goal

-- the entries from this place on were walked
abbrev pub invariant-loop-at : goal.invariant-loop-at
invariant-loop-at l = record {
  low : IsLow l.walk;
  walked : IsWalked l.walk (drop l.at l.history);
}
