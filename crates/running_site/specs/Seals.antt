-- What a pass appends in its turn, by what it has seen of the cell (own).
use Rattle.std.specs.Prelude.{ℕ, ◌≡◌, ◌+◌, ◌⊎◌, ◌++◌, ◌∷◌, [], true, Bool, cond, List, length, IfSome, Option, Result, Ok, Err, slice_index, slice_set}
use Rattle.shard_versions.specs.declared.cut.OwnMark.{OwnMark}
use Rattle.shard_versions.specs.declared.entry.Entry.{Entry}
use Rattle.stream_site.specs.declared.refusal.StepRefusal.{StepRefusal}
use Rattle.stream_site.specs.declared.refusal.StepRefusal.TheVariants as step
use Rattle.stream_site.specs.declared.refusal.EntryRefusal.{EntryRefusal}
use Rattle.stream_site.specs.declared.refusal.EntryRefusal.TheVariants as entry
use Rattle.topic_book.specs.States.{IsOpenTo}
use Rattle.topic_book.specs.declared.fault.BookFault.{BookFault}
use Rattle.topic_book.specs.declared.fault.BookFault.TheVariants as book
use Rattle.shard_versions.specs.declared.cut.CutMark.{CutMark}
use Rattle.exchange_rules.specs.Cells.{Log, book_in, history_in}
use Rattle.exchange_rules.specs.Following.{Writer}
use Rattle.exchange_rules.specs.Primitives.{IsBroken}
use Rattle.running_site.specs.Passes.{writer_in}
use Rattle.exchange_rules.specs.Steps.{is_full, kinds_of, writes_in}
use Rattle.exchange_rules.specs.declared.log_entry.LogEntry.{LogEntry}
use Rattle.shard_versions.specs.Histories.{History}
use Rattle.site_laws.specs.Sealings.{entries_of}
use Rattle.site_laws.specs.declared.cell_about.CellAbout.{CellAbout}
use Rattle.site_laws.specs.declared.sealing.Sealing.{Sealing}
use Rattle.site_laws.specs.declared.sealing.Sealing.TheVariants as sealing
use Rattle.turn_table.specs.Histories.{at}
use Rattle.turn_table.specs.Knowledge.{sealed}
use Rattle.turn_table.specs.declared.knowledge.Known.{Known}
use Rattle.turn_table.specs.declared.turn.Turn.{Turn}
use Rattle.logged_cells.specs.Cells.{is_closed, IsSettled}
use Rattle.logged_cells.specs.declared.logged_cell.LoggedCell.{LoggedCell}
use Rattle.logged_cells.specs.declared.refusal.LoggedRefusal.{LoggedRefusal}
use Rattle.logged_cells.specs.declared.refusal.LoggedRefusal.TheVariants as logged
use Rattle.running_site.specs.declared.refusal.SealRefusal.{SealRefusal}
use Rattle.running_site.specs.declared.refusal.SealRefusal.TheVariants.{NoRoom, Broken}
use Rattle.site_cells.specs.declared.cell_refusal.CellRefusal.{CellRefusal}
use Rattle.site_cells.specs.declared.cell_value.CellValue.{CellValue}
use Rattle.site_cells.specs.Values.{IsEntryRefusal, IsRefused, IsStepRefusal, IsTaken}
use Rattle.site_cells.specs.declared.cell_refusal.CellRefusal.TheVariants.{ShardFull, TopicBound, BookFull, OutOfMemory}

-- a sealing was appended behind what the pass had seen of the cell, and has its own mark
pub record IsSealed (old new : Known CellAbout LogEntry) (own more : List OwnMark) (cell : ℕ)
    (x : Sealing) : Type 0 where
  pub known_is : new ≡ sealed cell (at old.seen cell ++ entries_of x) old
  pub mark : more ≡ own ++ record {
    cell = cell;
    from = length (at old.seen cell);
    count = length (entries_of x);
  } ∷ []

-- with the step the counted bytes of this history pass the limit
abbrev pub IsFull : ℕ → History → List Entry → Type 0
IsFull limit h step = is_full limit h (kinds_of step) ≡ true

-- behind this log there was room for the sealing
abbrev pub IsFitting : ℕ → Log → Sealing → Type 0
IsFitting limit log (sealing.Shard step) = ¬ IsFull limit (history_in log) step
IsFitting limit log (sealing.Book e) = IsOpenTo (book_in log) e

-- why there was none
abbrev pub IsRefusal : ℕ → Log → Sealing → CellRefusal → Type 0
IsRefusal limit log (sealing.Shard step) refusal =
    IsStepRefusal (IsFull limit (history_in log) step) refusal
IsRefusal limit log (sealing.Book e) refusal = IsEntryRefusal (book_in log) e refusal

-- the refusal is a shard's
abbrev pub IsShardRefusal : CellRefusal → Type 0
IsShardRefusal ShardFull = Unit {0}
IsShardRefusal (TopicBound kept) = ⊥
IsShardRefusal (BookFull topics) = ⊥
IsShardRefusal OutOfMemory = Unit {0}

-- or the book's
abbrev pub IsBookRefusal : CellRefusal → Type 0
IsBookRefusal ShardFull = ⊥
IsBookRefusal (TopicBound kept) = Unit {0}
IsBookRefusal (BookFull topics) = Unit {0}
IsBookRefusal OutOfMemory = Unit {0}

-- the refusal of a step that it is; one of the book is none
abbrev pub step_refusal_of : CellRefusal → StepRefusal
step_refusal_of ShardFull = step.ShardFull
step_refusal_of (TopicBound kept) = step.OutOfMemory
step_refusal_of (BookFull topics) = step.OutOfMemory
step_refusal_of OutOfMemory = step.OutOfMemory

-- the book's fault that it is; one of a shard is none
abbrev pub book_fault_of : CellRefusal → BookFault
book_fault_of ShardFull = book.OutOfMemory
book_fault_of (TopicBound kept) = book.TopicBound kept
book_fault_of (BookFull topics) = book.BookFull topics
book_fault_of OutOfMemory = book.OutOfMemory

-- the refusal is a shard's, or that of a log
abbrev pub IsForShard : SealRefusal → Type 0
IsForShard (NoRoom refusal) = IsShardRefusal refusal
IsForShard (Broken writes) = Unit {0}

-- or the book's
abbrev pub IsForBook : SealRefusal → Type 0
IsForBook (NoRoom refusal) = IsBookRefusal refusal
IsForBook (Broken writes) = Unit {0}

-- why a shard's step isn't acknowledged
abbrev pub unsealed_of : SealRefusal → StepRefusal
unsealed_of (NoRoom refusal) = step_refusal_of refusal
unsealed_of (Broken writes) = step.Broken writes

-- why the book's entry isn't
abbrev pub unsealed_entry_of : SealRefusal → EntryRefusal
unsealed_entry_of (NoRoom refusal) = entry.Book (book_fault_of refusal)
unsealed_entry_of (Broken writes) = entry.Broken

-- how many writes of documents a sealing has
abbrev pub writes_of : Sealing → ℕ
writes_of (sealing.Shard step) = writes_in (kinds_of step)
writes_of (sealing.Book e) = 0

-- the pass noted one fault more of the cell's disk
abbrev pub broken_once : ℕ → Known CellAbout LogEntry → Known CellAbout LogEntry
broken_once cell k =
    record k { broke = slice_set k.broke cell (slice_index k.broke cell + 1) }

-- there is room, and where the disk failed that is noted
abbrev pub IsReady : ℕ → (old new : Known CellAbout LogEntry) → Bool → Type 0
IsReady cell old new failed = new ≡ cond failed (broken_once cell old) old

-- why a sealing isn't acknowledged, by what the cell holds: a log is asked only for what the cell takes
abbrev pub IsCauseOf : CellValue → Sealing → SealRefusal → Type 0
IsCauseOf value x (NoRoom refusal) = IsRefused value x refusal
IsCauseOf value x (Broken writes) = IsTaken value x

-- the same by what was seen of the cell
abbrev pub IsRefusalOf : ℕ → Log → Sealing → SealRefusal → Type 0
IsRefusalOf limit log x (NoRoom refusal) = IsRefusal limit log x refusal
IsRefusalOf limit log x (Broken writes) = IsFitting limit log x

-- this holds unless the log failed
abbrev pub UnlessBroken : {A : Type 0} → Type 0 → Result A SealRefusal → Type 0
UnlessBroken P (Ok x) = P
UnlessBroken P (Err (NoRoom refusal)) = P
UnlessBroken P (Err (Broken writes)) = Unit {0}

-- the turn stays where there was no room, and has been given back where the log failed
abbrev pub StaysIn : (Holds Free : Type 0) → SealRefusal → Type 0
StaysIn Holds Free (NoRoom refusal) = Holds
StaysIn Holds Free (Broken writes) = Free

-- the writer that a pass is once it has appended the sealing, with its mark
abbrev pub made_by : Known CellAbout LogEntry → List CutMark → List OwnMark → ℕ → Sealing → Writer
made_by k marks own cell x = writer_in (sealed cell (at k.seen cell ++ entries_of x) k) marks
    (own ++ record {
      cell = cell;
      from = length (at k.seen cell);
      count = length (entries_of x);
    } ∷ [])

-- the writer where a sealing of so many writes isn't acknowledged
abbrev pub LeavesWriter : (old made : Writer) → (cell writes : ℕ) → Writer → SealRefusal → Type 0
LeavesWriter old made cell writes new (NoRoom refusal) = new ≡ old
LeavesWriter old made cell writes new (Broken stand) = IsBroken old made cell writes stand new

module _ {D : Type 0} where
  -- the turn may be given back: its value waits for no log, or is shut
  abbrev pub IsGivable : (D → Option (List ℕ)) → (D → List ℕ → Type 0) → Turn (LoggedCell D)
      → Type 0
  IsGivable seen may_leave turn = IfSome turn.value
      (λ cell. IsSettled seen may_leave cell ⊎ (is_closed cell ≡ true))

  -- no room was made: nothing has changed, or the disk failed and that is noted
  abbrev pub IsUnready : (t u : Turn (LoggedCell D)) → (old new : Known CellAbout LogEntry)
      → LoggedRefusal → Type 0
  IsUnready t u old new (logged.NoRoom refusal) = (u.value ≡ t.value) × (new ≡ old)
  IsUnready t u old new logged.LogFault = new ≡ broken_once t.cell old

  -- a sealing isn't acknowledged: there was no room, and nothing has changed; or the disk failed, which
  -- is noted, and the sealing stands with its mark, or it doesn't
  abbrev pub IsUnsealedIn : (t u : Turn (LoggedCell D)) → (old new : Known CellAbout LogEntry)
      → (own more : List OwnMark) → ℕ → Sealing → SealRefusal → Type 0
  IsUnsealedIn t u old new own more cell x (NoRoom refusal) =
      (u.value ≡ t.value) × (new ≡ old) × (more ≡ own)
  IsUnsealedIn t u old new own more cell x (Broken writes) =
      ((writes ≡ 0) × (new ≡ broken_once cell old) × (more ≡ own))
      ⊎ ((writes ≡ writes_of x) × IsSealed (broken_once cell old) new own more cell x)
