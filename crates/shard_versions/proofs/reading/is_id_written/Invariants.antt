use Rattle.std.proofs.Common.{◌≡◌, drop}
use Rattle.shard_versions.specs.Histories.{slots, writes_id}
use Rattle.shard_versions.proofs.reading.is_id_written.Given as goal

-- the entries to come decide
abbrev pub invariant-loop-entry : goal.invariant-loop-entry
invariant-loop-entry l = writes_id l.id (slots l.entries) ≡ writes_id l.id (slots (drop l.entry-index l.entries))
