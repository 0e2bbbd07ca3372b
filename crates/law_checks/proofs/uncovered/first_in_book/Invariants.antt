use Rattle.std.proofs.Common.{◌≡◌, take}
use Rattle.once_core.specs.declared.world.Histories.{Histories}
use Rattle.law_checks.specs.Coverage.{AreAllCovered}
use Rattle.law_checks.specs.Topics.{AreCheckpoints}
use Rattle.law_checks.proofs.uncovered.first_in_book.Given as goal

-- the checkpoints of the topics so far are right
abbrev pub invariant-loop-entry : goal.invariant-loop-entry
invariant-loop-entry l =
    (hs : Histories) → l.against.sights.now ≡ hs.shards → AreCheckpoints l.stored hs.book
    → AreAllCovered l.against.names.now hs (take l.entry-index l.book)
