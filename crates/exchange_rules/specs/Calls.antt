-- What a call says of its writer: it followed its course, or stopped for want of memory, at a fault of
-- a log or at a closed cell (own).
use Rattle.std.specs.Prelude.{ℕ, ◌+◌, ◌≡◌, ◌<◌, Bool, false, not, count_by, get_or, Result, Ok, Err}
use Rattle.shard_versions.specs.Histories.{is_mark}
use Rattle.exchange_rules.specs.declared.log_entry.LogEntry.{LogEntry}
use Rattle.exchange_rules.specs.Courses.{Course, ends}
use Rattle.exchange_rules.specs.Accesses.{own_of, at_owns}
use Rattle.exchange_rules.specs.Following.{Writer, Reaches, Answers, Begins}
use Rattle.exchange_rules.specs.declared.log_entry.LogEntry.TheVariants as logged
use Rattle.exchange_rules.specs.declared.fault.SiteFault.{SiteFault}
use Rattle.exchange_rules.specs.declared.fault.SiteFault.TheVariants.{ShardFull, TopicBound, BookFull, LogFault, CellClosed, OutOfMemory}

-- whether the entry is a write of a shard
abbrev pub is_write : LogEntry → Bool
is_write (logged.Shard e) = not (is_mark e.kind)
is_write (logged.Book e) = false

-- from old to new the writer followed the course down to this rest, and so many of the entries
-- that it appended are writes
pub record HasAppended {A : Type 0} (old new : Writer) (course rest : Course A) (writes : ℕ)
    : Type 0 where
  pub reached : Reaches old new course rest
  pub counted : writes ≡ count_by is_write (at_owns new.seen (own_of reached.accesses))

-- the writer found the cell closed
abbrev pub HasBarred : Writer → Writer → ℕ → Type 0
HasBarred old new cell = get_or old.faults.barred cell 0 < get_or new.faults.barred cell 0

-- the writer noted a fault of the cell's log
abbrev pub HasBroken : Writer → Writer → ℕ → Type 0
HasBroken old new cell = get_or old.faults.broke cell 0 < get_or new.faults.broke cell 0

-- a call stopped in its course, when so many writes were appended: those before the call and its own
pub record IsStopped {A : Type 0} (before : ℕ) (old new : Writer) (course : Course A) (stand : ℕ)
    : Type 0 where
  pub rest : Course A
  pub writes : ℕ
  pub stood : HasAppended old new course rest writes
  pub counted : stand ≡ before + writes

-- a call, before which so many writes were appended, was refused as its course says, or stopped: at
-- a fault of a log that it noted, at a cell that it found closed, or for want of memory
abbrev pub Refused : {A : Type 0} → ℕ → Writer → Writer → Course (Result A SiteFault) → SiteFault
    → Type 0
Refused before old new course (ShardFull collection shard stand) =
    Answers old new course (Err (ShardFull collection shard stand))
Refused before old new course (TopicBound kept) = Answers old new course (Err (TopicBound kept))
Refused before old new course (BookFull topics) = Answers old new course (Err (BookFull topics))
Refused before old new course (LogFault cell stand) =
    IsStopped before old new course stand × HasBroken old new cell
Refused before old new course (CellClosed cell stand) =
    IsStopped before old new course stand × HasBarred old new cell
Refused before old new course (OutOfMemory stand) = IsStopped before old new course stand

-- a part of a call, before which so many writes were appended, followed its course to this answer
-- and appended so many writes; or it was refused or stopped
abbrev pub Passed : {A : Type 0} → ℕ → Writer → Writer → Course (Result A SiteFault) → ℕ
    → Result A SiteFault → Type 0
Passed before old new course writes (Ok a) = HasAppended old new course (ends (Ok a)) writes
Passed before old new course writes (Err fault) = Refused before old new course fault

-- the same of a part whose answer is how many writes it appended
abbrev pub PassedSent : ℕ → Writer → Writer → Course (Result ℕ SiteFault) → Result ℕ SiteFault
    → Type 0
PassedSent before old new course (Ok n) = HasAppended old new course (ends (Ok n)) n
PassedSent before old new course (Err fault) = Refused before old new course fault

-- a call followed its course to this answer, was refused, or stopped
abbrev pub Answered : {A : Type 0} → Writer → Writer → Course (Result A SiteFault)
    → Result A SiteFault → Type 0
Answered old new course (Ok a) = Answers old new course (Ok a)
Answered old new course (Err fault) = Refused 0 old new course fault

-- why a call that only looks stopped: at a cell that it found closed, or for want of memory
abbrev pub Stopped : {A : Type 0} → Writer → Writer → Course A → SiteFault → Type 0
Stopped old new course (ShardFull collection shard stand) = ⊥
Stopped old new course (TopicBound kept) = ⊥
Stopped old new course (BookFull topics) = ⊥
Stopped old new course (LogFault cell stand) = ⊥
Stopped old new course (CellClosed cell stand) =
    IsStopped 0 old new course stand × HasBarred old new cell
Stopped old new course (OutOfMemory stand) = IsStopped 0 old new course stand

-- a call that only looks followed its course to this answer and appended no write, or stopped
abbrev pub Completed : {A : Type 0} → Writer → Writer → Course A → Result A SiteFault → Type 0
Completed old new course (Ok a) = HasAppended old new course (ends a) 0
Completed old new course (Err fault) = Stopped old new course fault

-- the fault is this refusal, or want of memory after so many writes
abbrev pub IsFaultFor : SiteFault → ℕ → SiteFault → Type 0
IsFaultFor refusal stand (ShardFull collection shard n) = ShardFull collection shard n ≡ refusal
IsFaultFor refusal stand (TopicBound kept) = TopicBound kept ≡ refusal
IsFaultFor refusal stand (BookFull topics) = BookFull topics ≡ refusal
IsFaultFor refusal stand (LogFault cell n) = ⊥
IsFaultFor refusal stand (CellClosed cell n) = ⊥
IsFaultFor refusal stand (OutOfMemory n) = n ≡ stand

-- the writer followed the course to this answer, or a beginning of it where it stopped
abbrev pub Carried : {A E : Type 0} → Writer → Writer → Course A → Result A E → Type 0
Carried old new course (Ok a) = Answers old new course a
Carried old new course (Err fault) = Begins old new course

-- a call of several others was refused as its course says, or stopped: at a fault of a log that it
-- noted, at a cell that it found closed, or for want of memory
abbrev pub IsEnded : {A : Type 0} → Writer → Writer → Course (Result A SiteFault) → SiteFault
    → Type 0
IsEnded old new course (ShardFull collection shard stand) =
    Answers old new course (Err (ShardFull collection shard stand))
IsEnded old new course (TopicBound kept) = Answers old new course (Err (TopicBound kept))
IsEnded old new course (BookFull topics) = Answers old new course (Err (BookFull topics))
IsEnded old new course (LogFault cell stand) = Begins old new course × HasBroken old new cell
IsEnded old new course (CellClosed cell stand) = Begins old new course × HasBarred old new cell
IsEnded old new course (OutOfMemory stand) = Begins old new course

-- it followed its course to this answer, was refused, or stopped
abbrev pub Ended : {A : Type 0} → Writer → Writer → Course (Result A SiteFault)
    → Result A SiteFault → Type 0
Ended old new course (Ok a) = Answers old new course (Ok a)
Ended old new course (Err fault) = IsEnded old new course fault
