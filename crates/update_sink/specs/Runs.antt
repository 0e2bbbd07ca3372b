-- When the run of a topic followed its course (own).
use Rattle.std.specs.Prelude.{Result, Ok, Err}
use Rattle.exchange_rules.specs.Calls.{HasBarred, HasBroken, IsStopped}
use Rattle.exchange_rules.specs.Courses.{Course}
use Rattle.exchange_rules.specs.Following.{Writer, Answers}
use Rattle.exchange_rules.specs.declared.fault.SiteFault.{SiteFault}
use Rattle.exchange_rules.specs.declared.fault.SiteFault.TheVariants.{ShardFull, TopicBound, BookFull, LogFault, CellClosed, OutOfMemory}
use Rattle.exchange_rules.specs.declared.run.TopicFault.{TopicFault}

-- a run that stopped with this fault was refused as its course says; or it stopped when so many
-- writes stood as are told: at a fault of a log that it noted, at a cell that it found closed, or for
-- want of memory
abbrev pub IsStoppedBy : {A : Type 0} → Writer → Writer → Course (Result A TopicFault) → TopicFault
    → SiteFault → Type 0
IsStoppedBy old new course stopped (ShardFull collection shard stand) =
    Answers old new course (Err stopped)
IsStoppedBy old new course stopped (TopicBound kept) = Answers old new course (Err stopped)
IsStoppedBy old new course stopped (BookFull topics) = Answers old new course (Err stopped)
IsStoppedBy old new course stopped (LogFault cell stand) =
    IsStopped 0 old new course stopped.stand × HasBroken old new cell
IsStoppedBy old new course stopped (CellClosed cell stand) =
    IsStopped 0 old new course stopped.stand × HasBarred old new cell
IsStoppedBy old new course stopped (OutOfMemory stand) = IsStopped 0 old new course stopped.stand

-- a run followed its course to this answer, was refused, or stopped
abbrev pub IsRun : {A : Type 0} → Writer → Writer → Course (Result A TopicFault)
    → Result A TopicFault → Type 0
IsRun old new course (Ok a) = Answers old new course (Ok a)
IsRun old new course (Err stopped) = IsStoppedBy old new course stopped stopped.fault
