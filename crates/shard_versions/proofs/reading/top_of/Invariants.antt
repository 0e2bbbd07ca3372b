use Rattle.std.proofs.Common.{◌≡◌, ◌≤◌, drop}
use Rattle.shard_versions.specs.Histories.{top, last_version, slots_after}
use Rattle.shard_versions.proofs.reading.top_of.Given as goal

-- the entries to come lead to the top
abbrev pub invariant-loop-entry : goal.invariant-loop-entry
invariant-loop-entry l = record {
  reached : last_version l.version (slots_after l.version (drop l.entry-index l.entries)) ≡ top l.history;
  few : l.version ≤ l.entry-index;
}
