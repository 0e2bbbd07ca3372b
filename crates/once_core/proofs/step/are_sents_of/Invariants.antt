use Rattle.std.proofs.Common.{◌≡◌, true, take}
use Rattle.std.specs.List.{AllByRecursion}
use Rattle.shard_versions.specs.Deliveries.{is_sent_of}
use Rattle.once_core.proofs.step.are_sents_of.Given as goal

-- each so far is one
abbrev pub invariant-loop-entry : goal.invariant-loop-entry
invariant-loop-entry l = AllByRecursion (λ e. is_sent_of l.src e.kind ≡ true) (take l.entry-index l.entries)
