-- What a cell of a site is told and has, and what it takes (own).
use Rattle.std.specs.Prelude.{ℕ, ◌+◌, ◌<◌, Bool, true, false, List}
use Rattle.tuple_values.specs.declared.names.NameShards.{NameShards}
use Rattle.shard_versions.specs.Fitness.{AreStorable}
use Rattle.shard_versions.specs.Shards.{HasRoom, Shard}
use Rattle.shard_versions.specs.Sizes.{entries_bytes}
use Rattle.shard_versions.specs.declared.entry.Entry.{Entry}
use Rattle.topic_book.specs.Fitness.{MayFollow}
use Rattle.topic_book.specs.States as states
use Rattle.topic_book.specs.Books.{Book}
use Rattle.topic_book.specs.States.{IsCauseOf, IsOpenTo}
use Rattle.topic_book.specs.declared.fault.BookFault.TheVariants as fault
use Rattle.topic_book.specs.declared.topic.BookEntry.{BookEntry}
use Rattle.exchange_rules.specs.Cells.{Log, log_of, log_of_book}
use Rattle.site_laws.specs.Looks.{IsLookCovered}
use Rattle.site_laws.specs.Sealings.{names_told}
use Rattle.site_laws.specs.SiteCells.{IsLawful}
use Rattle.site_laws.specs.declared.cell_about.CellAbout.{CellAbout}
use Rattle.site_laws.specs.declared.sealing.Sealing.{Sealing}
use Rattle.site_laws.specs.declared.sealing.Sealing.TheVariants as sealing
use Rattle.site_cells.specs.declared.cell_refusal.CellRefusal.{CellRefusal}
use Rattle.site_cells.specs.declared.cell_refusal.CellRefusal.TheVariants.{ShardFull, TopicBound, BookFull, OutOfMemory}
use Rattle.site_cells.specs.declared.cell_value.CellValue.{CellValue}
use Rattle.site_cells.specs.declared.cell_value.CellValue.TheVariants as value

-- what is fixed of a shard's cell
abbrev pub about_shard : List NameShards → ℕ → CellAbout
about_shard names limit = record { names = names; is_book = false; limit = limit }

-- and of the book's
abbrev pub about_book : List NameShards → CellAbout
about_book names = record { names = names; is_book = true; limit = 0 }

-- what is fixed of a cell that is told these collections and has this value
abbrev pub about_of : List NameShards → CellValue → CellAbout
about_of names (value.Shard s) = about_shard names s.limit
about_of names (value.Book b) = about_book names

-- the log of the value
abbrev pub log_in : CellValue → Log
log_in (value.Shard s) = log_of s.entries
log_in (value.Book b) = log_of_book b.entries

-- the law over the logs of all cells: the core's
abbrev pub law_of : List CellAbout → List Log → Type 0
law_of abouts logs = IsLawful (names_told abouts) logs

-- what a look at a cell tells of the topics
abbrev pub tells_of : List CellAbout → ℕ → List Log → List Log → Type 0
tells_of abouts cell seen logs = IsLookCovered (names_told abouts) cell seen logs

-- with the step the shard's counted bytes pass its limit
abbrev pub IsOver : Shard → List Entry → Type 0
IsOver shard step = shard.limit < entries_bytes shard.entries + entries_bytes step

-- a shard's step passes its limit
abbrev pub IsOverLimit : CellValue → Sealing → Type 0
IsOverLimit (value.Shard s) (sealing.Shard step) = IsOver s step
IsOverLimit (value.Shard s) (sealing.Book e) = ⊥
IsOverLimit (value.Book b) (sealing.Shard step) = ⊥
IsOverLimit (value.Book b) (sealing.Book e) = ⊥

-- room may be asked for: of a shard for what it can store, of the book for what may follow
abbrev pub CanReserve : CellValue → Sealing → Type 0
CanReserve (value.Shard s) (sealing.Shard step) = AreStorable step
CanReserve (value.Shard s) (sealing.Book e) = ⊥
CanReserve (value.Book b) (sealing.Shard step) = ⊥
CanReserve (value.Book b) (sealing.Book e) = MayFollow b.entries e

-- there is room for it
abbrev pub HasRoomFor : CellValue → Sealing → Type 0
HasRoomFor (value.Shard s) (sealing.Shard step) = HasRoom s step × AreStorable step
HasRoomFor (value.Shard s) (sealing.Book e) = ⊥
HasRoomFor (value.Book b) (sealing.Shard step) = ⊥
HasRoomFor (value.Book b) (sealing.Book e) = states.HasRoom b e × MayFollow b.entries e

-- what is known where room was made: the step fits by the limit, or the topic may be bound so
abbrev pub IsTaken : CellValue → Sealing → Type 0
IsTaken (value.Shard s) (sealing.Shard step) = ¬ IsOver s step
IsTaken (value.Shard s) (sealing.Book e) = ⊥
IsTaken (value.Book b) (sealing.Shard step) = ⊥
IsTaken (value.Book b) (sealing.Book e) = IsOpenTo b.entries e

-- why no room was made for a step, by whether the counted bytes pass the limit with it
abbrev pub IsStepRefusal : Type 0 → CellRefusal → Type 0
IsStepRefusal Over ShardFull = Over
IsStepRefusal Over (TopicBound kept) = ⊥
IsStepRefusal Over (BookFull topics) = ⊥
IsStepRefusal Over OutOfMemory = ¬ Over

-- why no room was made for an entry of this book
abbrev pub IsEntryRefusal : Book → BookEntry → CellRefusal → Type 0
IsEntryRefusal book e ShardFull = ⊥
IsEntryRefusal book e (TopicBound kept) = IsCauseOf book e (fault.TopicBound kept)
IsEntryRefusal book e (BookFull topics) = IsCauseOf book e (fault.BookFull topics)
IsEntryRefusal book e OutOfMemory = IsCauseOf book e fault.OutOfMemory

-- why no room was made
abbrev pub IsRefused : CellValue → Sealing → CellRefusal → Type 0
IsRefused (value.Shard s) (sealing.Shard step) refusal = IsStepRefusal (IsOver s step) refusal
IsRefused (value.Shard s) (sealing.Book e) refusal = ⊥
IsRefused (value.Book b) (sealing.Shard step) refusal = ⊥
IsRefused (value.Book b) (sealing.Book e) refusal = IsEntryRefusal b.entries e refusal
