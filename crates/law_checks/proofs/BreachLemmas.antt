-- The law holds exactly where no breach is found.
use Rattle.std.proofs.Common.{ℕ, List, Some, subst, sym}
use Rattle.tuple_values.specs.declared.names.NameShards.{NameShards}
use Rattle.once_core.specs.Cells.{shard_history}
use Rattle.once_core.specs.Law.{IsLaw, IsCovered}
use Rattle.once_core.specs.declared.world.Histories.{Histories}
use Rattle.law_checks.specs.Plausible.{ArePlausible}
use Rattle.law_checks.specs.Sents.{AreSentsRight}
use Rattle.law_checks.specs.Coverage.{AreAllCovered}
use Rattle.law_checks.specs.Breaches.{IsFirstBreach}
use Rattle.law_checks.specs.declared.breach.Breach.{Breach}
use Rattle.law_checks.specs.declared.breach.Breach.TheVariants.{BadSent, Uncovered}
use Rattle.law_checks.proofs.RightLemmas.{right-none}

-- histories that are fit keep the law where their Sents are right and their checkpoints are
pub law-from : (names : List NameShards) (hs : Histories) → ArePlausible names hs → AreSentsRight names hs → AreAllCovered names hs hs.book
    → IsLaw names hs
law-from names hs plausible right covered = record {
  fit = plausible.fit;
  versioned = plausible.versioned;
  fit_book = plausible.fit_book;
  readable = plausible.readable;
  settled = right.settled;
  true_sents = right.true_sents;
  rising = right.rising;
  covered = covered;
}

-- where a breach is found the law doesn't hold
pub breach-excludes : (names : List NameShards) (hs : Histories) (b : Breach) → IsFirstBreach names hs (Some b) → IsLaw names hs → ⊥
breach-excludes names hs (BadSent cell entry) first law =
    right-none names hs (record { settled = law.settled; true_sents = law.true_sents; rising = law.rising }) cell entry first.bad
breach-excludes names hs (Uncovered key shard upto) first law =
    first.1.uncovered
    (subst (λ (u : ℕ). IsCovered names hs first.1.binding shard (shard_history names hs first.1.binding.src shard) u) (sym first.1.number)
    (law.covered key first.1.binding first.1.bound shard first.1.in_range))
