-- The histories in the cells of a site, and the core's law over them (own).
use Rattle.std.specs.Prelude.{ℕ, zero, suc, ◌+◌, ◌≡◌, List, [], ◌∷◌, ◌++◌, get_or, length}
use Rattle.tuple_values.specs.declared.names.NameShards.{NameShards}
use Rattle.shard_versions.specs.Histories.{History}
use Rattle.topic_book.specs.Cells.{cells_in}
use Rattle.once_core.specs.Law.{IsLaw}
use Rattle.once_core.specs.declared.world.Histories.{Histories}
use Rattle.exchange_rules.specs.Cells.{Log, history_in, book_in}

-- the shards' histories in the first so many cells
abbrev pub shards_in : ℕ → List Log → List History
shards_in zero logs = []
shards_in (suc n) [] = []
shards_in (suc n) (log ∷ logs) = history_in log ∷ shards_in n logs

-- the histories in these cells, of which the last is the book's
abbrev pub histories_in : List NameShards → List Log → Histories
histories_in names logs = record {
  shards = shards_in (cells_in names) logs;
  book = book_in (get_or logs (cells_in names) []);
}

-- there is a cell for each shard, and the book's, and the core's law holds of these histories
pub record IsLawful (names : List NameShards) (logs : List Log) : Type 0 where
  pub counted : length logs ≡ cells_in names + 1
  pub law : IsLaw names (histories_in names logs)

-- each log that was seen begins the log of its cell
abbrev pub AreSeenOf : List Log → List Log → Type 0
AreSeenOf seen logs =
    (cell : ℕ) → (more : Log) × (get_or logs cell [] ≡ get_or seen cell [] ++ more)
