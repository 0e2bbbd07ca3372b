-- What is appended by what was seen keeps the law over all cells (own).
use Rattle.std.specs.Prelude.{ℕ, ◌≡◌, ◌<◌, List, [], ◌∷◌, ◌++◌, get_or, set}
use Rattle.tuple_values.specs.declared.names.NameShards.{NameShards}
use Rattle.shard_versions.specs.Deliveries.{admitted, marked}
use Rattle.shard_versions.specs.declared.entry.Entry.{Entry}
use Rattle.topic_book.specs.Cells.{cells_in}
use Rattle.topic_book.specs.declared.topic.BookEntry.{BookEntry}
use Rattle.exchange_rules.specs.Cells.{Log, history_in, log_of}
use Rattle.exchange_rules.specs.declared.log_entry.LogEntry.TheVariants as logged
use Rattle.site_laws.specs.Duties.{MayWrite, MayDeliver, MayAppendEntry}
use Rattle.site_laws.specs.SiteCells.{AreSeenOf, IsLawful}

-- the logs with these entries behind the cell's
abbrev pub with_more : List Log → ℕ → Log → List Log
with_more logs cell more = set logs cell (get_or logs cell [] ++ more)

-- the writer has seen prefixes of all cells, and all of this one
pub record HasSeen (seen logs : List Log) (cell : ℕ) : Type 0 where
  pub before : AreSeenOf seen logs
  pub all : get_or seen cell [] ≡ get_or logs cell []

-- the law is kept by each step of writes, each delivery and each entry of the book that may be
-- appended by what was seen
pub record AppendsKeep : Type 0 where
  pub write : (names : List NameShards) (me : ℕ) (logs seen : List Log) (cell : ℕ)
      (step : List Entry) → IsLawful names logs → HasSeen seen logs cell → cell < cells_in names
      → MayWrite names me seen cell step → IsLawful names (with_more logs cell (log_of step))
  pub deliver : (names : List NameShards) (me : ℕ) (logs seen : List Log) (cell : ℕ)
      (step : List Entry) → IsLawful names logs → HasSeen seen logs cell → cell < cells_in names
      → MayDeliver names me seen cell step
      → IsLawful names (with_more logs cell
      (log_of (marked me (admitted (history_in (get_or seen cell [])) step))))
  pub append_entry : (names : List NameShards) (me : ℕ) (logs seen : List Log) (e : BookEntry)
      → IsLawful names logs → HasSeen seen logs (cells_in names) → MayAppendEntry names me seen e
      → IsLawful names (with_more logs (cells_in names) (logged.Book e ∷ []))
