-- What is said of one batch of an update, whatever follows it (own).
use Rattle.std.specs.Prelude.{ℕ, List, Option, Some, None, Result, Ok, Err}
use Rattle.tuple_values.specs.Document.{ByteList}
use Rattle.tuple_values.specs.declared.memory.Memory.{Memory}
use Rattle.tuple_values.specs.declared.write.Write.{Write}
use Rattle.exchange_rules.specs.Batches.{Sunk}
use Rattle.exchange_rules.specs.Courses.{Course}
use Rattle.exchange_rules.specs.Following.{Writer, Reaches, Answers, Begins}
use Rattle.exchange_rules.specs.Rows.{Layout}
use Rattle.exchange_rules.specs.Updates.{batch_course, ran_into}
use Rattle.exchange_rules.specs.declared.fault.SiteFault.{SiteFault}
use Rattle.exchange_rules.specs.declared.fault.SiteFault.TheVariants.{ShardFull, TopicBound, BookFull, LogFault, CellClosed, OutOfMemory}
use Rattle.exchange_rules.specs.declared.run.Ran.{Ran}
use Rattle.exchange_rules.specs.declared.run.RunFault.{RunFault}
use Rattle.exchange_rules.specs.declared.run.RunFault.TheVariants.{Site}
use Rattle.update_sink.specs.declared.update.Halt.{Halt}

-- why a batch stopped its update, and what that leaves
abbrev pub halted : Sunk → Halt → Ran
halted s h = ran_into s h.stand h.fault

-- why a batch that was refused stops its update, and none where memory was wanting or a log failed
abbrev pub halt_of : SiteFault → Option Halt
halt_of (ShardFull collection shard stand) =
    Some (record { stand = stand; fault = Site (ShardFull collection shard stand) })
halt_of (TopicBound kept) = Some (record { stand = 0; fault = Site (TopicBound kept) })
halt_of (BookFull topics) = Some (record { stand = 0; fault = Site (BookFull topics) })
halt_of (LogFault cell stand) = None
halt_of (CellClosed cell stand) = None
halt_of (OutOfMemory stand) = None

-- the course of a batch
abbrev pub batch_of : Layout → ByteList → ℕ → Sunk → Result (List Write) RunFault
    → (Sunk → Course Ran) → Course Ran
batch_of l dest tuples s puts next = batch_course l dest tuples s next puts

-- from old to new the writer followed the course of a batch, after which the update stands so: it
-- goes on, or it stopped, or memory was wanting
abbrev pub IsTaken : Writer → Writer → ((Sunk → Course Ran) → Course Ran) → Sunk
    → Result (Option Halt) Memory → Type 0
IsTaken old new batch after (Ok None) =
    (next : Sunk → Course Ran) → Reaches old new (batch next) (next after)
IsTaken old new batch after (Ok (Some h)) =
    (next : Sunk → Course Ran) → Answers old new (batch next) (halted after h)
IsTaken old new batch after (Err fault) =
    (next : Sunk → Course Ran) → Begins old new (batch next)
