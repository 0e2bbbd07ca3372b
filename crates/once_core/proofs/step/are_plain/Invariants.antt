use Rattle.std.proofs.Common.{◌≡◌, true, take}
use Rattle.std.specs.List.{AllByRecursion}
use Rattle.shard_versions.specs.Deliveries.{is_plain}
use Rattle.once_core.proofs.step.are_plain.Given as goal

-- none so far is a delivery
abbrev pub invariant-loop-entry : goal.invariant-loop-entry
invariant-loop-entry l = AllByRecursion (λ e. is_plain e.kind ≡ true) (take l.entry-index l.entries)
