use Rattle.std.proofs.Common.{take}
use Rattle.std.specs.List.{AllByRecursion}
use Rattle.once_core.specs.Law.{IsSentIfTaken}
use Rattle.once_core.specs.Worlds.{seen_by}
use Rattle.once_core.proofs.store.are_shown_sent.Given as goal

-- those so far were sent
abbrev pub invariant-loop-k : goal.invariant-loop-k
invariant-loop-k l =
    AllByRecursion
    (IsSentIfTaken l.seen.names.now (seen_by l.seen.actor l.seen.world.now) l.binding l.dest l.span.low l.span.high)
    (take l.k l.shown.documents)
