use Rattle.std.proofs.Common.{◌≡◌, take}
use Rattle.std.specs.List.{AllByRecursion}
use Rattle.once_core.proofs.step.are_by.Given as goal

-- those so far carry it
abbrev pub invariant-loop-entry : goal.invariant-loop-entry
invariant-loop-entry l = AllByRecursion (λ e. e.by ≡ l.actor) (take l.entry-index l.entries)
