use Rattle.std.proofs.Common.{◌≡◌, ◌≤◌, ◌+◌, map, take}
use Rattle.shard_versions.specs.Logs.{made_entry, AreMade}
use Rattle.shard_versions.proofs.LogLemmas.{reached}
use Rattle.shard_versions.proofs.log.made_all.Given as goal

-- the entries so far are made ready
abbrev pub invariant-loop-entry : goal.invariant-loop-entry
invariant-loop-entry l = record {
  entries : map made_entry l.all.items ≡ take l.entry-index l.step;
  made : AreMade l.last l.all.items;
  version : l.version ≡ reached l.last l.all.items;
  few : l.version ≤ l.last + l.entry-index;
}
