-- What holds where a writer is the only one (own).
use Rattle.std.specs.Prelude.{ℕ, ◌≡◌, List}
use Rattle.tuple_values.specs.declared.names.NameShards.{NameShards}
use Rattle.exchange_rules.specs.Following.{Writer}
use Rattle.exchange_rules.specs.Own.{IsAlone}
use Rattle.site_laws.specs.SiteCells.{IsLawful}

-- the writer has the number 1, each entry that it has seen is its own, and the law of all histories
-- holds of them
pub record IsAllOwn (names : List NameShards) (w : Writer) : Type 0 where
  pub number : w.me ≡ 1
  pub own : (had : List ℕ) → IsAlone 1 had w.seen
  pub lawful : IsLawful names w.seen
