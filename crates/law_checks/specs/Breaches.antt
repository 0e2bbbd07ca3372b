-- Where histories break the law first (own).
use Rattle.std.specs.Prelude.{List, Option, Some, None}
use Rattle.tuple_values.specs.declared.names.NameShards.{NameShards}
use Rattle.once_core.specs.Law.{IsLaw}
use Rattle.once_core.specs.declared.world.Histories.{Histories}
use Rattle.law_checks.specs.Sents.{NoneIsBad, IsFirstBad}
use Rattle.law_checks.specs.Coverage.{IsFirstUncovered}
use Rattle.law_checks.specs.declared.breach.Breach.{Breach}
use Rattle.law_checks.specs.declared.breach.Breach.TheVariants.{BadSent, Uncovered}

-- the first breach of the law: of a Sent, and where no Sent breaks it, of a checkpoint; none where
-- the law holds
abbrev pub IsFirstBreach : List NameShards → Histories → Option Breach → Type 0
IsFirstBreach names hs None = IsLaw names hs
IsFirstBreach names hs (Some (BadSent cell entry)) = IsFirstBad names hs cell entry
IsFirstBreach names hs (Some (Uncovered key shard upto)) =
    NoneIsBad names hs × IsFirstUncovered names hs key shard upto

-- where a breach is found the law doesn't hold
abbrev pub BreachesExcludeTheLaw : Type 0
BreachesExcludeTheLaw =
    (names : List NameShards) (hs : Histories) (b : Breach) → IsFirstBreach names hs (Some b)
    → ¬ (IsLaw names hs)
