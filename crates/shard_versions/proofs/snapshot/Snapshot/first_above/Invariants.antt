use Rattle.std.proofs.Common.{ℕ, ◌-◌, ◌<◌, ◌≤◌, [], length, get_or}
use Rattle.tuple_values.specs.Document.{Doc}
use Rattle.shard_versions.proofs.snapshot.Snapshot.first_above.Given as goal

-- the versions before `from` aren't above the number, and those from `end` on are
abbrev pub invariant-loop-from : goal.invariant-loop-from
invariant-loop-from l = record {
  order : l.from ≤ l.end;
  within : l.end ≤ length l.self.documents;
  below : (k : ℕ) → k < l.from → (get_or l.self.documents k (0, [])).0 ≤ l.low;
  above : (k : ℕ) → l.end ≤ k → k < length l.self.documents
      → l.low < (get_or l.self.documents k (0, [])).0;
}

abbrev pub decreases-loop-from : goal.decreases-loop-from
decreases-loop-from l = l.end - l.from
