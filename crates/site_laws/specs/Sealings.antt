-- What the cells of a site are told, and what a writer may append to one at once (own).
use Rattle.std.specs.Prelude.{ℕ, ◌≡◌, ◌<◌, ◌⊎◌, List, [], ◌∷◌, get_or}
use Rattle.tuple_values.specs.declared.names.NameShards.{NameShards}
use Rattle.shard_versions.specs.Deliveries.{admitted, marked}
use Rattle.shard_versions.specs.declared.entry.Entry.{Entry}
use Rattle.topic_book.specs.Cells.{cells_in}
use Rattle.exchange_rules.specs.Cells.{Log, history_in, log_of}
use Rattle.exchange_rules.specs.declared.log_entry.LogEntry.TheVariants as logged
use Rattle.site_laws.specs.Duties.{MayDeliver, MayAppendEntry, MayWrite}
use Rattle.site_laws.specs.declared.cell_about.CellAbout.{CellAbout}
use Rattle.site_laws.specs.declared.sealing.Sealing.{Sealing}
use Rattle.site_laws.specs.declared.sealing.Sealing.TheVariants as sealing

-- the collections that the cells are told
abbrev pub names_told : List CellAbout → List NameShards
names_told [] = []
names_told (about ∷ abouts) = about.names

-- what a sealing appends
abbrev pub entries_of : Sealing → Log
entries_of (sealing.Shard step) = log_of step
entries_of (sealing.Book e) = logged.Book e ∷ []

-- of deliveries that the writer may make, the step has those that the cell admits, and a Mark
pub record IsAdmitted (names : List NameShards) (me : ℕ) (seen : List Log) (cell : ℕ)
    (step : List Entry) : Type 0 where
  pub items : List Entry
  pub allowed : MayDeliver names me seen cell items
  pub is : step ≡ marked me (admitted (history_in (get_or seen cell [])) items)

-- a sealing that the writer may append: a step of writes or of deliveries at a shard's cell, an
-- entry at the book's
abbrev pub MayAppend : List NameShards → ℕ → List Log → ℕ → Sealing → Type 0
MayAppend names me seen cell (sealing.Shard step) =
    (cell < cells_in names)
    × (MayWrite names me seen cell step ⊎ IsAdmitted names me seen cell step)
MayAppend names me seen cell (sealing.Book e) =
    (cell ≡ cells_in names) × MayAppendEntry names me seen e
