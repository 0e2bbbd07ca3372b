use Rattle.std.proofs.Common.{◌≡◌, take}
use Rattle.std.specs.List.{AllByRecursion}
use Rattle.once_core.specs.Law.{IsSentIfTaken}
use Rattle.once_core.specs.declared.world.Histories.{Histories}
use Rattle.law_checks.specs.Walks.{read_of}
use Rattle.law_checks.proofs.coverage.are_sent.Given as goal

-- those so far were sent
abbrev pub invariant-loop-one : goal.invariant-loop-one
invariant-loop-one l =
    (hs : Histories) → l.against.sights.now ≡ hs.shards
    → AllByRecursion (λ s. IsSentIfTaken l.against.names.now hs l.bound.binding.now l.dest l.span.low l.span.high (read_of s))
    (take l.one-index l.shown)
