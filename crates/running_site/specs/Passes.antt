-- What a pass of a site is seen as, and what is true of it between two calls (own).
use Rattle.std.specs.Prelude.{ℕ, zero, suc, ◌≡◌, ◌≢◌, ◌<◌, ◌+◌, ◌++◌, ◌∷◌, [], true, All, List, Option, None, Some, get_or, length, map, replicate, slice_index, take}
use Rattle.std.specs.List.{list_all}
use Rattle.tuple_values.specs.declared.names.NameShards.{NameShards}
use Rattle.atomic_table.specs.Seated.{TableId}
use Rattle.shard_versions.specs.Fitness.{is_fit}
use Rattle.shard_versions.specs.declared.cut.CutMark.{CutMark}
use Rattle.shard_versions.specs.declared.cut.OwnMark.{OwnMark}
use Rattle.exchange_rules.specs.declared.log_entry.LogEntry.{LogEntry}
use Rattle.exchange_rules.specs.Cells.{Log, author_of, history_in}
use Rattle.exchange_rules.specs.Following.{Faults, Writer}
use Rattle.exchange_rules.specs.Rows.{Layout}
use Rattle.site_laws.specs.Looks.{last_seen, Sight}
use Rattle.site_laws.specs.declared.cell_about.CellAbout.{CellAbout}
use Rattle.turn_table.specs.Calls.{known, table_of}
use Rattle.turn_table.specs.Knowledge.{IsFree}
use Rattle.turn_table.specs.declared.knowledge.Known.{Known}
use Rattle.turn_table.specs.declared.pass.Pass.{Pass}
use Rattle.turn_table.specs.declared.rule.Opening.{Opening}
use Rattle.site_cells.specs.Cells.{abouts_of, no_logs}
use Rattle.logged_cells.specs.Cells.{about_in, log_of_cell}
use Rattle.topic_book.specs.Cells.{Place, cells_in, place_of}
use Rattle.logged_cells.specs.declared.logged_cell.LoggedCell.{LoggedCell}
use Rattle.running_site.specs.declared.pass.PassOf.{PassOf}

-- no fault at so many cells
abbrev pub no_faults : ℕ → Faults
no_faults cells = record { barred = replicate cells 0; broke = replicate cells 0 }

-- a pass of the table of a site whose cells may have logs on such disks
abbrev pub TablePass : Type 0 → Type 0
TablePass D = Pass (LoggedCell D) CellAbout LogEntry

-- the writer that a pass with this record is
abbrev pub writer_in : Known CellAbout LogEntry → List CutMark → List OwnMark → Writer
writer_in k marks own = record {
  me = k.number;
  seen = k.seen;
  marks = marks;
  own = own;
  looks = k.looks;
  faults = record { barred = k.barred; broke = k.broke };
}

-- what it has seen, and when
abbrev pub sight_in : Known CellAbout LogEntry → Sight
sight_in k = record { seen = k.seen; looks = k.looks; asof = k.asof }

-- the collections, and the limit
abbrev pub layout_in : List NameShards → ℕ → Layout
layout_in names limit = record { names = names; limit = limit }

module _ {D : Type 0} where
  -- the writer that a pass is; one that is away in a call has seen nothing
  abbrev pub writer_where : Option (TablePass D) → List CutMark → List OwnMark → Writer
  writer_where None marks own =
      record { me = 0; seen = []; marks = marks; own = own; looks = []; faults = no_faults 0 }
  writer_where (Some p) marks own = writer_in (known p) marks own

  abbrev pub writer_of : PassOf (TablePass D) → Writer
  writer_of pass = writer_where pass.pass pass.marks.items pass.own.items

  -- the number of a pass
  abbrev pub number_of : PassOf (TablePass D) → ℕ
  number_of pass = (writer_of pass).me

  -- its sight
  abbrev pub sight_where : Option (TablePass D) → Sight
  sight_where None = record { seen = []; looks = []; asof = [] }
  sight_where (Some p) = sight_in (known p)

  abbrev pub sight_of : PassOf (TablePass D) → Sight
  sight_of pass = sight_where pass.pass

-- each log that was seen early begins what was seen late
abbrev pub WereSeen : List Log → List Log → Type 0
WereSeen early late =
    (cell : ℕ) → take (length (get_or early cell [])) (get_or late cell []) ≡ get_or early cell []

-- what was seen of each shard's cell belongs there
abbrev pub AreSeenFit : List NameShards → List Log → Type 0
AreSeenFit names seen =
    (cell : ℕ) (place : Place) → cell < cells_in names → place_of names cell ≡ Some place
    → list_all (λ e. is_fit place.shards place.shard e.kind) (history_in (get_or seen cell []))
    ≡ true

-- the number is one of these: not each of them differs from it
abbrev pub IsListed : List ℕ → ℕ → Type 0
IsListed numbers n = ¬ All (λ m. m ≢ n) numbers

-- each entry that was seen carries one of these numbers
abbrev pub AreSeenSigned : List ℕ → List Log → Type 0
AreSeenSigned numbers seen =
    (cell : ℕ) → All (λ entry. IsListed numbers (author_of entry)) (get_or seen cell [])

-- a pass that is told which cells there are, all without an entry at the start, and has seen all
-- that its looks showed, of each shard what belongs there, and no entry but of its table's passes
pub record IsKnowing (names : List NameShards) (limit : ℕ) (k : Known CellAbout LogEntry)
    : Type 0 where
  pub about : k.about ≡ abouts_of names limit
  pub begun : k.start ≡ no_logs names
  pub listed : IsListed k.numbers k.number
  pub signed : AreSeenSigned k.numbers k.seen
  pub since : (cell : ℕ) → 0 < slice_index k.looks cell
      → WereSeen (last_seen (sight_in k) cell) k.seen
  pub fit : AreSeenFit names k.seen

module _ {D : Type 0} where
  -- the cells with which a site of these collections started: all had no entry
  pub record IsOpened (names : List NameShards) (limit : ℕ) (cells : List (LoggedCell D)) : Type 0 where
    pub told : map about_in cells ≡ abouts_of names limit
    pub empty : map log_of_cell cells ≡ no_logs names

  -- the pass was made for this table, which started with these cells and numbers of passes, and has
  -- no turn
  pub record IsPassIn (table : TableId) (key : Opening (LoggedCell D)) (l : Layout) (p : Option (TablePass D))
      : Type 0 where
    pub opened : IsOpened l.names l.limit key.cells.value
    pub inside : TablePass D
    pub there : p ≡ Some inside
    pub table_is : table_of inside ≡ table
    pub numbered : (known inside).numbers ≡ key.numbers.value
    pub knowing : IsKnowing l.names l.limit (known inside)
    pub free : IsFree (known inside)

  abbrev pub IsPassOf : TableId → Opening (LoggedCell D) → Layout → PassOf (TablePass D) → Type 0
  IsPassOf table key l pass = IsPassIn table key l pass.pass

-- the numbers from 1 to the count
abbrev pub numbers_to : ℕ → List ℕ
numbers_to zero = []
numbers_to (suc n) = numbers_to n ++ suc n ∷ []

-- the writer that a pass with this number is before its first call
abbrev pub new_writer : List NameShards → ℕ → Writer
new_writer names number = record {
  me = number;
  seen = no_logs names;
  marks = [];
  own = [];
  looks = replicate (cells_in names + 1) 0;
  faults = no_faults (cells_in names + 1);
}
