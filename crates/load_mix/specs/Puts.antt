-- What an update of the source adds to its cells (own).
use Rattle.std.specs.Prelude.{ℕ, ◌<◌, ◌≤◌, ◌≡◌, false, List, []}
use Rattle.tuple_values.specs.declared.write.Write.{Write}
use Rattle.shard_versions.specs.Histories.{is_pending}
use Rattle.exchange_rules.specs.Cells.{Log, history_in}
use Rattle.exchange_rules.specs.Following.{Writer}
use Rattle.exchange_rules.specs.Steps.{routed}
use Rattle.load_rules.specs.Loaded.{writes_in}
use Rattle.load_rules.specs.Worked.{HasAdded}

-- it appended these writes: to each of the first four cells, which are the source's, those that
-- route
-- to its shard, in order, each of which a Mark follows; and nothing to another cell
pub record HasPut (writes : List Write) (old new : Writer) : Type 0 where
  pub steps : ℕ → Log
  pub added : HasAdded steps old new
  pub written : (shard : ℕ) → shard < 4
      → writes_in (history_in (steps shard)) ≡ routed 4 shard writes
  pub closed : (shard : ℕ) → shard < 4 → is_pending (history_in (steps shard)) ≡ false
  pub elsewhere : (cell : ℕ) → 4 ≤ cell → steps cell ≡ []
