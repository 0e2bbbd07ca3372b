-- What a writer may append to a cell by what it has seen: what an allowed event appends (own).
use Rattle.std.specs.Prelude.{ℕ, ◌≡◌, ◌≢◌, ◌<◌, true, List}
use Rattle.std.specs.List.{AllByRecursion}
use Rattle.tuple_values.specs.Document.{ByteList}
use Rattle.tuple_values.specs.declared.names.NameShards.{NameShards}
use Rattle.shard_versions.specs.Deliveries.{ArePlain}
use Rattle.shard_versions.specs.Documents.{is_storable}
use Rattle.shard_versions.specs.declared.entry.Entry.{Entry}
use Rattle.topic_book.specs.Books.{raises}
use Rattle.topic_book.specs.Fitness.{shards_of}
use Rattle.topic_book.specs.declared.topic.BookEntry.{BookEntry}
use Rattle.topic_book.specs.declared.topic.BookEntry.TheVariants.{Bind, Store}
use Rattle.once_core.specs.Allowed.{IsStep, IsDispatch, MayJoin, MayStore}
use Rattle.once_core.specs.Cells.{cell_of}
use Rattle.once_core.specs.Law.{IsDelivery, IsFitCell}
use Rattle.exchange_rules.specs.Cells.{Log}
use Rattle.exchange_rules.specs.declared.batch.BatchItem.{BatchItem}
use Rattle.site_laws.specs.SiteCells.{histories_in}

-- a step of writes that the writer may make: it isn't empty, belongs in the cell and delivers
-- nothing
pub record MayWrite (names : List NameShards) (me : ℕ) (seen : List Log) (cell : ℕ)
    (step : List Entry) : Type 0 where
  pub step_is : IsStep names (histories_in names seen) me cell step
  pub plain : ArePlain step

-- deliveries from one source of which the writer may make those that the cell admits
pub record MayDeliver (names : List NameShards) (me : ℕ) (seen : List Log) (cell : ℕ)
    (step : List Entry) : Type 0 where
  pub src : ByteList
  pub step_is : IsStep names (histories_in names seen) me cell step
  pub dispatch : IsDispatch names (histories_in names seen) cell src step

-- an entry that the writer may add to the book: a Bind that may join it, a Store of what was
-- delivered that raises something
abbrev pub MayAppendEntry : List NameShards → ℕ → List Log → BookEntry → Type 0
MayAppendEntry names me seen (Bind by key b) =
    (by ≡ me) × MayJoin names (histories_in names seen).book (Bind by key b)
MayAppendEntry names me seen (Store by key upto) =
    (by ≡ me) × (MayStore names (histories_in names seen) key upto
    × (raises key (histories_in names seen).book upto ≡ true))

-- entries that belong in the cell and deliver nothing; there may be none
pub record IsFitStep (names : List NameShards) (cell : ℕ) (step : List Entry) : Type 0 where
  pub fit : IsFitCell names cell step
  pub plain : ArePlain step

-- the item is a delivery from a write of the source that was seen committed, and can be kept
pub record IsItem (names : List NameShards) (seen : List Log) (dest src : ByteList)
    (i : BatchItem) : Type 0 where
  pub storable : is_storable i.document ≡ true
  pub delivery : IsDelivery names (histories_in names seen) (cell_of names dest 0) src i.version
      i.document

-- a batch that the writer may deliver to another collection than its source
pub record MaySend (names : List NameShards) (seen : List Log) (dest src : ByteList)
    (batch : List BatchItem) : Type 0 where
  pub known : 0 < shards_of names dest
  pub elsewhere : src ≢ dest
  pub items : AllByRecursion (IsItem names seen dest src) batch
