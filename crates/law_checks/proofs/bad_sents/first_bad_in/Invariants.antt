use Rattle.std.proofs.Common.{◌≡◌, ℕ, take}
use Rattle.once_core.specs.declared.world.Histories.{Histories}
use Rattle.law_checks.specs.Judged.{AreSentUpTo, AreGoodBelow}
use Rattle.law_checks.proofs.bad_sents.first_bad_in.Given as goal

-- what was sent so far, of which nothing breaks the law
abbrev pub invariant-loop-at : goal.invariant-loop-at
invariant-loop-at l =
    record {
      sent : AreSentUpTo l.sent (take l.at l.history);
      good : (hs : Histories) (cell : ℕ) → l.shards ≡ hs.shards → AreGoodBelow l.names hs cell l.history l.at;
    }
