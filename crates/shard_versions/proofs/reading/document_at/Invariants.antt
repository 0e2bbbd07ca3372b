use Rattle.std.proofs.Common.{◌≡◌, ◌≤◌, drop}
use Rattle.shard_versions.specs.Histories.{write_at, slots, slots_after}
use Rattle.shard_versions.specs.Readings.{left_under}
use Rattle.shard_versions.proofs.reading.document_at.Given as goal

-- the write of the version is to come
abbrev pub invariant-loop-entry : goal.invariant-loop-entry
invariant-loop-entry l = record {
  found : left_under l.id (write_at l.version (slots l.history))
      ≡ left_under l.id (write_at l.version (slots_after l.last (drop l.entry-index l.history)));
  few : l.last ≤ l.entry-index;
}
