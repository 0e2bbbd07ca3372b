use Rattle.std.proofs.Common.{◌≡◌, ◌≤◌, take}
use Rattle.exchange_rules.specs.Steps.{kinds_of, writes_in}
use Rattle.running_site.proofs.sealing.count_writes.Given as goal

-- so many writes so far
abbrev pub invariant-loop-entry : goal.invariant-loop-entry
invariant-loop-entry l = record {
  counted : l.writes ≡ writes_in (kinds_of (take l.entry-index l.step));
  few : l.writes ≤ l.entry-index;
}
