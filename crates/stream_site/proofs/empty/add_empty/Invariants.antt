-- So many more shards are empty.
use Rattle.std.proofs.Common.{ℕ, ◌+◌}
use Rattle.stream_site.specs.Logs.{AreEmpty}
use Rattle.stream_site.proofs.empty.add_empty.Given as goal

abbrev pub invariant-loop : goal.invariant-loop
invariant-loop l =
    (before : ℕ) → AreEmpty l.limit before l.initial.shards.items
    → AreEmpty l.limit (before + l.counter) l.shards.items
