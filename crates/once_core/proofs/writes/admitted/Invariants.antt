use Rattle.std.proofs.Common.{◌≡◌, ◌++◌, drop}
use Rattle.shard_versions.specs.Deliveries.{admitted}
use Rattle.once_core.proofs.writes.admitted.Given as goal

-- what is kept, and what is admitted of the items to come
abbrev pub invariant-loop-entry : goal.invariant-loop-entry
invariant-loop-entry l =
    admitted l.history l.step ≡ l.kept ++ admitted (l.history ++ l.kept) (drop l.entry-index l.step)
