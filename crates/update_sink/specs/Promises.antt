-- What the run of a topic promises over what its writer has seen, and what it appends (own).
use Rattle.std.specs.Prelude.{ℕ, ◌≡◌, ◌≢◌, ◌<◌, ◌≤◌, Bool, true, false, not, bytes_eq, count_by, Contains, List, ◌++◌, slice_index, Result, Ok, Err}
use Rattle.std.specs.List.{AllByRecursion}
use Rattle.tuple_values.specs.Document.{ByteList}
use Rattle.tuple_values.specs.declared.names.NameShards.{NameShards}
use Rattle.shard_versions.specs.declared.cut.OwnMark.{OwnMark}
use Rattle.shard_versions.specs.declared.entry.Kind.{Kind}
use Rattle.shard_versions.specs.declared.entry.Kind.TheVariants.{Put, Del, Sent, Mark}
use Rattle.topic_book.specs.Books.{checkpoint, same_key}
use Rattle.topic_book.specs.declared.topic.BookEntry.TheVariants.{Bind, Store}
use Rattle.topic_book.specs.declared.topic.TopicKey.{TopicKey}
use Rattle.exchange_rules.specs.Accesses.{at_owns}
use Rattle.exchange_rules.specs.Bindings.{book_cell}
use Rattle.exchange_rules.specs.Calls.{is_write}
use Rattle.exchange_rules.specs.Cells.{Log}
use Rattle.exchange_rules.specs.Deliveries.{sent_kind}
use Rattle.exchange_rules.specs.Following.{Writer}
use Rattle.exchange_rules.specs.Rows.{Layout}
use Rattle.exchange_rules.specs.Topics.{tops_of}
use Rattle.exchange_rules.specs.declared.fault.SiteFault.{SiteFault}
use Rattle.exchange_rules.specs.declared.fault.SiteFault.TheVariants.{ShardFull, TopicBound, BookFull, LogFault, CellClosed, OutOfMemory}
use Rattle.exchange_rules.specs.declared.log_entry.LogEntry.{LogEntry}
use Rattle.exchange_rules.specs.declared.log_entry.LogEntry.TheVariants as logged
use Rattle.exchange_rules.specs.declared.run.TopicFault.{TopicFault}
use Rattle.exchange_rules.specs.declared.run.TopicRun.{TopicRun}
use Rattle.site_laws.specs.SiteCells.{histories_in}
use Rattle.source_streams.specs.Batches.{topic_items}
use Rattle.source_streams.specs.declared.batch.TopicItem.{TopicItem}
use Rattle.update_sink.specs.Given.{AreThereNow}
use Rattle.update_sink.specs.Topics.{Sink, key_of, sent_item}

-- whether the entry is a Bind
abbrev pub is_bind : LogEntry → Bool
is_bind (logged.Shard e) = false
is_bind (logged.Book (Bind by key b)) = true
is_bind (logged.Book (Store by key upto)) = false

-- whether it is a Store
abbrev pub is_store : LogEntry → Bool
is_store (logged.Shard e) = false
is_store (logged.Book (Bind by key b)) = false
is_store (logged.Book (Store by key upto)) = true

-- whether a shard's entry is neither a document that was delivered from this source nor a Mark
abbrev pub is_other_kind : ByteList → Kind → Bool
is_other_kind src (Put document) = true
is_other_kind src (Del id) = true
is_other_kind src (Sent from version document) = not (bytes_eq from src)
is_other_kind src Mark = false

-- whether the entry is no part of the run of a topic of this source: neither its Bind nor its Store,
-- nor a document that was delivered from there, nor a Mark
abbrev pub is_other : TopicKey → ByteList → LogEntry → Bool
is_other key src (logged.Shard e) = is_other_kind src e.kind
is_other key src (logged.Book (Bind by k b)) = not (same_key k key)
is_other key src (logged.Book (Store by k upto)) = not (same_key k key)

-- the own marks that the record gained, and what their steps appended
pub record Gained (old new : Writer) : Type 0 where
  pub own : List OwnMark
  pub is : new.own ≡ old.own ++ own

-- what was appended from old to new
abbrev pub appended : (old new : Writer) → Gained old new → Log
appended old new g = at_owns new.seen g.own

-- from old to new the writer appended at most one Bind and one Store of the topic, and else only
-- documents from its source, and Marks
pub record IsRunAlone (key : TopicKey) (src : ByteList) (old new : Writer) : Type 0 where
  pub gained : Gained old new
  pub binds : count_by is_bind (appended old new gained) ≤ 1
  pub stores : count_by is_store (appended old new gained) ≤ 1
  pub others : count_by (is_other key src) (appended old new gained) ≡ 0

-- it stored nothing
pub record IsUnstored (old new : Writer) : Type 0 where
  pub gained : Gained old new
  pub stores : count_by is_store (appended old new gained) ≡ 0

-- it stored nothing, unless the fault is one of the book's log: then the own marks tell
abbrev pub IsUnstoredBy : List NameShards → (old new : Writer) → SiteFault → Type 0
IsUnstoredBy names old new (ShardFull collection shard stand) = IsUnstored old new
IsUnstoredBy names old new (TopicBound kept) = IsUnstored old new
IsUnstoredBy names old new (BookFull topics) = IsUnstored old new
IsUnstoredBy names old new (LogFault cell stand) = cell ≢ book_cell names → IsUnstored old new
IsUnstoredBy names old new (CellClosed cell stand) = IsUnstored old new
IsUnstoredBy names old new (OutOfMemory stand) = IsUnstored old new

-- just so many of the entries that the writer appended are writes
pub record HasStood (old new : Writer) (writes : ℕ) : Type 0 where
  pub gained : Gained old new
  pub counted : writes ≡ count_by is_write (appended old new gained)

-- how many of its writes stand, as a run tells
abbrev pub stand_of : Result TopicRun TopicFault → ℕ
stand_of (Ok run) = run.stand
stand_of (Err stop) = stop.stand

-- the item is above the checkpoint at its shard
abbrev pub IsAbove : List ℕ → TopicItem → Type 0
IsAbove before i = slice_index before i.shard < i.version

-- the topic's checkpoint has reached these versions in what was seen
abbrev pub HasReached : List NameShards → List Log → TopicKey → List ℕ → Type 0
HasReached names seen key upto =
    (shard : ℕ) → slice_index upto shard ≤ checkpoint key (histories_in names seen).book shard

-- the kind is the delivery of one of these items, which is above the checkpoint
pub record IsDelivery (src : ByteList) (before : List ℕ) (items : List TopicItem) (k : Kind)
    : Type 0 where
  pub item : TopicItem
  pub given : Contains items item
  pub above : IsAbove before item
  pub is : k ≡ sent_kind src (sent_item src item)

-- the kind is such a delivery, or a Mark
abbrev pub IsRunKind : ByteList → List ℕ → List TopicItem → Kind → Type 0
IsRunKind src before items (Put document) = ⊥
IsRunKind src before items (Del id) = ⊥
IsRunKind src before items (Sent from version document) =
    IsDelivery src before items (Sent from version document)
IsRunKind src before items Mark = Unit {0}

-- so is the entry, unless it is one of the book
abbrev pub IsRunEntry : ByteList → List ℕ → List TopicItem → LogEntry → Type 0
IsRunEntry src before items (logged.Shard e) = IsRunKind src before items e.kind
IsRunEntry src before items (logged.Book e) = Unit {0}

-- from old to new the writer delivered only what the topic gives of the cut that it read, above the
-- checkpoint that it read: each entry that it appended at a shard is such a delivery, from the
-- topic's source, in the item's version and with its document, or a Mark
pub record HasDelivered (old new : Writer) (s : Sink) (run : TopicRun) : Type 0 where
  pub gained : Gained old new
  pub only : AllByRecursion (IsRunEntry s.topic.collection run.before
      (topic_items s.topic run.cut run.before)) (appended old new gained)

-- what a run promises: all that the topic gives of the cut that it read, above the checkpoint that
-- it read, stands in the destination in its version or a later one; what it stored are the tops of
-- the cut, and the topic's checkpoint has reached them
pub record IsKept (l : Layout) (new : Writer) (s : Sink) (run : TopicRun) : Type 0 where
  pub there : AreThereNow l.names new.seen s.dest s.topic.collection
      (topic_items s.topic run.cut run.before)
  pub tops : run.stored ≡ tops_of run.cut
  pub reached : HasReached l.names new.seen (key_of s.topic) run.stored
