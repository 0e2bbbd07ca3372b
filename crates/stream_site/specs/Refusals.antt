-- What a refusal at a cell leaves, and as what a call tells it (own).
use Rattle.std.specs.Prelude.{ℕ, ◌≡◌}
use Rattle.topic_book.specs.Books.{Book}
use Rattle.topic_book.specs.States.{IsCauseOf}
use Rattle.topic_book.specs.declared.topic.BookEntry.{BookEntry}
use Rattle.exchange_rules.specs.Following.{Writer}
use Rattle.exchange_rules.specs.Primitives.{barred_at, IsBroken}
use Rattle.exchange_rules.specs.declared.fault.SiteFault.{SiteFault}
use Rattle.exchange_rules.specs.declared.fault.SiteFault.TheVariants as fault
use Rattle.stream_site.specs.Topics.{fault_of}
use Rattle.stream_site.specs.declared.refusal.LookRefusal.{LookRefusal}
use Rattle.stream_site.specs.declared.refusal.LookRefusal.TheVariants as look
use Rattle.stream_site.specs.declared.refusal.StepRefusal.{StepRefusal}
use Rattle.stream_site.specs.declared.refusal.StepRefusal.TheVariants as step
use Rattle.stream_site.specs.declared.refusal.EntryRefusal.{EntryRefusal}
use Rattle.stream_site.specs.declared.refusal.EntryRefusal.TheVariants as entry

-- a look at the cell was refused: the cell was found closed, or nothing has changed
abbrev pub IsUnseen : (old new : Writer) → ℕ → LookRefusal → Type 0
IsUnseen old new cell (look.Closed at) = (at ≡ cell) × (new ≡ barred_at old cell)
IsUnseen old new cell look.OutOfMemory = new ≡ old

-- the refusal of a look as that of a call, so many of whose writes stand
abbrev pub unseen : ℕ → LookRefusal → SiteFault
unseen stand (look.Closed cell) = fault.CellClosed cell stand
unseen stand look.OutOfMemory = fault.OutOfMemory stand

-- a step of so many writes was refused: the append to the cell's log failed, for which there was
-- room, or nothing has changed
abbrev pub IsUnsealed : Type 0 → (old made : Writer) → (cell writes : ℕ) → Writer → StepRefusal
    → Type 0
IsUnsealed Fits old made cell writes new step.ShardFull = new ≡ old
IsUnsealed Fits old made cell writes new (step.Broken stand) =
    Fits × IsBroken old made cell writes stand new
IsUnsealed Fits old made cell writes new step.OutOfMemory = new ≡ old

-- the refusal of an entry as that of a call that appends no write, with the book's cell
abbrev pub unadded : ℕ → EntryRefusal → SiteFault
unadded cell (entry.Book f) = fault_of f
unadded cell entry.Broken = fault.LogFault cell 0

-- an entry was refused: by the book, which has cause, and nothing has changed; or the append to the
-- book's log failed, where the entry may follow
abbrev pub IsUnadded : Type 0 → Book → BookEntry → (old made : Writer) → ℕ → Writer → EntryRefusal
    → Type 0
IsUnadded Fits book e old made cell new (entry.Book f) = IsCauseOf book e f × (new ≡ old)
IsUnadded Fits book e old made cell new entry.Broken = Fits × IsBroken old made cell 0 0 new

-- the writer has the turn still where nothing was written, and has given it back where the log failed
abbrev pub StaysWith : (Holds Free : Type 0) → StepRefusal → Type 0
StaysWith Holds Free step.ShardFull = Holds
StaysWith Holds Free (step.Broken writes) = Free
StaysWith Holds Free step.OutOfMemory = Holds

-- the same of an entry
abbrev pub StaysWithEntry : (Holds Free : Type 0) → EntryRefusal → Type 0
StaysWithEntry Holds Free (entry.Book f) = Holds
StaysWithEntry Holds Free entry.Broken = Free
