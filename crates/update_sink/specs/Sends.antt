-- What is said of one batch of a topic's run, whatever follows it, and of all of them (own).
use Rattle.std.specs.Prelude.{ℕ, ◌≡◌, List, length, map, Result, Ok, Err}
use Rattle.tuple_values.specs.Document.{ByteList}
use Rattle.tuple_values.specs.declared.names.NameShards.{NameShards}
use Rattle.shard_versions.specs.declared.cut.CutPart.{CutPart}
use Rattle.topic_book.specs.declared.topic.TopicKey.{TopicKey}
use Rattle.once_core.specs.Allowed.{MayStore}
use Rattle.exchange_rules.specs.Batches.{Sunk, batches_of, none_sunk}
use Rattle.exchange_rules.specs.Bindings.{store_course}
use Rattle.exchange_rules.specs.Calls.{HasBarred, HasBroken, IsStopped}
use Rattle.exchange_rules.specs.Cells.{Log}
use Rattle.exchange_rules.specs.Courses.{Course, ends, and_then, and_ok}
use Rattle.exchange_rules.specs.Deliveries.{send_course}
use Rattle.exchange_rules.specs.Following.{Grows, Writer, Reaches, Answers}
use Rattle.exchange_rules.specs.Rows.{Layout}
use Rattle.exchange_rules.specs.Topics.{after_send, sends_course, stopped_by}
use Rattle.site_laws.specs.SiteCells.{histories_in}
use Rattle.source_streams.specs.declared.batch.TopicItem.{TopicItem}
use Rattle.exchange_rules.specs.declared.batch.BatchItem.{BatchItem}
use Rattle.exchange_rules.specs.declared.fault.SiteFault.{SiteFault}
use Rattle.exchange_rules.specs.declared.fault.SiteFault.TheVariants.{ShardFull, TopicBound, BookFull, LogFault, CellClosed, OutOfMemory}
use Rattle.exchange_rules.specs.declared.run.TopicFault.{TopicFault}
use Rattle.exchange_rules.specs.declared.run.TopicRun.{TopicRun}
use Rattle.update_sink.specs.Given.{AreThereNow}
use Rattle.update_sink.specs.Topics.{run_at, sent_item}
use Rattle.update_sink.specs.declared.delivering.Done.{Done}

-- what follows a batch
abbrev pub Next : Type 0
Next = Sunk → Course (Result Sunk TopicFault)

-- the course of a batch
abbrev pub send_of : Layout → (dest src : ByteList) → List BatchItem → Sunk → Next
    → Course (Result Sunk TopicFault)
send_of l dest src b s next = and_then (send_course l dest src b) (after_send (length b) s next)

-- a batch was refused as its course says, or stopped when so many of its writes stood: at a fault of a
-- log that it noted, at a cell that it found closed, or for want of memory
abbrev pub IsUnsent : Writer → Writer → (Next → Course (Result Sunk TopicFault)) → Sunk
    → SiteFault → Type 0
IsUnsent old new batch s (ShardFull collection shard stand) =
    (next : Next)
    → Answers old new (batch next) (Err (stopped_by s (ShardFull collection shard stand)))
IsUnsent old new batch s (TopicBound kept) =
    (next : Next) → Answers old new (batch next) (Err (stopped_by s (TopicBound kept)))
IsUnsent old new batch s (BookFull topics) =
    (next : Next) → Answers old new (batch next) (Err (stopped_by s (BookFull topics)))
IsUnsent old new batch s (LogFault cell stand) =
    (next : Next) → IsStopped 0 old new (batch next) stand × HasBroken old new cell
IsUnsent old new batch s (CellClosed cell stand) =
    (next : Next) → IsStopped 0 old new (batch next) stand × HasBarred old new cell
IsUnsent old new batch s (OutOfMemory stand) =
    (next : Next) → IsStopped 0 old new (batch next) stand

-- from old to new the writer followed the course of a batch, after which the run stands so: it goes
-- on, or it was refused, or memory was wanting
abbrev pub IsSent : Writer → Writer → (Next → Course (Result Sunk TopicFault)) → Sunk
    → Result (Unit {0}) SiteFault → Type 0
IsSent old new batch after (Ok done) = (next : Next) → Reaches old new (batch next) (next after)
IsSent old new batch after (Err fault) = IsUnsent old new batch after fault

-- what was delivered
abbrev pub sunk_done : Done → Sunk
sunk_done done = record { summaries = done.summaries; total = done.read; stand = done.stand }

-- the same, unless the run stopped
abbrev pub told_of : Result Done TopicFault → Result Sunk TopicFault
told_of (Ok done) = Ok (sunk_done done)
told_of (Err stopped) = Err stopped

-- what a run does of what a topic gives: it is delivered in batches of so many, these versions are
-- stored, and what was done is told
abbrev pub finish_course : Layout → TopicKey → (dest src : ByteList) → ℕ → List TopicItem
    → List ℕ → (Sunk → TopicRun) → Course (Result TopicRun TopicFault)
finish_course l key dest src size items tops answer =
    and_ok (sends_course l dest src none_sunk (batches_of size (map (sent_item src) items)))
    (λ sunk.
    and_ok (store_course l.names key tops) (λ done. ends (Ok (answer sunk))))

-- what is told of a run over this cut above this checkpoint, when these versions were stored
pub record IsToldOf (before : List ℕ) (cut : List CutPart) (tops : List ℕ) (run : TopicRun)
    : Type 0 where
  pub sunk : Sunk
  pub is : run ≡ run_at before cut tops sunk

-- once all of the items are there, in whatever more is seen, these versions may be stored
pub record MayFinish (names : List NameShards) (seen : List Log) (key : TopicKey)
    (dest src : ByteList) (items : List TopicItem) (tops : List ℕ) : Type 0 where
  pub storable : (later : List Log) → Grows seen later → AreThereNow names later dest src items
      → MayStore names (histories_in names later) key tops
