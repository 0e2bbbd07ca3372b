use Rattle.std.proofs.Common.{ℕ, take}
use Rattle.std.specs.List.{AllByRecursion}
use Rattle.once_core.specs.Law.{IsTrueKind}
use Rattle.once_core.specs.Worlds.{seen_by}
use Rattle.once_core.proofs.dispatch.are_true.Given as goal

-- those so far are
abbrev pub invariant-loop-entry : goal.invariant-loop-entry
invariant-loop-entry l =
    (cell : ℕ) → AllByRecursion (λ e. IsTrueKind l.seen.names.now (seen_by l.seen.actor l.seen.world.now) cell e.kind)
    (take l.entry-index l.entries)
