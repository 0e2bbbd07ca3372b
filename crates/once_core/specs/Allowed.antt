-- Which events are allowed, by what their actor has seen (own).
use Rattle.std.specs.Prelude.{ℕ, ◌≡◌, ◌≢◌, ◌<◌, ◌≤◌, List, length, slice_index, Option, Some, None}
use Rattle.std.specs.List.{AllByRecursion}
use Rattle.tuple_values.specs.Document.{ByteList}
use Rattle.tuple_values.specs.declared.names.NameShards.{NameShards}
use Rattle.shard_versions.specs.Histories.{top}
use Rattle.shard_versions.specs.Deliveries.{ArePlain, AreSentsOf}
use Rattle.shard_versions.specs.declared.entry.Entry.{Entry}
use Rattle.topic_book.specs.Books.{Book, binding_of, checkpoint}
use Rattle.topic_book.specs.Fitness.{MayFollow, IsFitEntry, shards_of}
use Rattle.topic_book.specs.declared.topic.TopicKey.{TopicKey}
use Rattle.topic_book.specs.declared.topic.Binding.{Binding}
use Rattle.topic_book.specs.declared.topic.BookEntry.{BookEntry}
use Rattle.topic_book.specs.declared.topic.BookEntry.TheVariants as book
use Rattle.once_core.specs.Cells.{Place, place_of, shard_history}
use Rattle.once_core.specs.Law.{IsFitCell, IsReadableEntry, AreTrue, AreSent}
use Rattle.once_core.specs.declared.event.Event.{Event}
use Rattle.once_core.specs.declared.event.Event.TheVariants.{Write, Look, Send, Bind, Store, Forget}
use Rattle.once_core.specs.declared.world.Histories.{Histories}

-- a step that the actor may make in the cell: it isn't empty, the cell is a shard's and may have
-- it, and each entry carries the actor's number
pub record IsStep (names : List NameShards) (hs : Histories) (actor cell : ℕ)
    (step : List Entry) : Type 0 where
  pub filled : 0 < length step
  pub in_range : cell < length hs.shards
  pub fit : IsFitCell names cell step
  pub own : AllByRecursion (λ e. e.by ≡ actor) step

-- the place isn't one of this collection
abbrev pub IsElsewhere : Option Place → ByteList → Type 0
IsElsewhere None collection = Unit {0}
IsElsewhere (Some place) collection = place.collection ≢ collection

-- a step of deliveries from one other collection, whose writes the actor has seen committed
pub record IsDispatch (names : List NameShards) (seen : Histories) (cell : ℕ) (src : ByteList)
    (step : List Entry) : Type 0 where
  pub sent : AreSentsOf src step
  pub elsewhere : IsElsewhere (place_of names cell) src
  pub true_sents : AreTrue names seen cell step

-- an entry that may follow in the book, over known collections, with a query that can be read
pub record MayJoin (names : List NameShards) (entries : Book) (e : BookEntry) : Type 0 where
  pub follows : MayFollow entries e
  pub fit : IsFitEntry names e
  pub readable : IsReadableEntry e

-- each number is at most the top of its shard
abbrev pub AreReached : List NameShards → Histories → ByteList → List ℕ → Type 0
AreReached names hs src upto =
    (shard : ℕ) → shard < shards_of names src
    → slice_index upto shard ≤ top (shard_history names hs src shard)

-- in each shard of the source, each current document that the topic takes, above its checkpoint and
-- at most the number there, was sent to the destination
abbrev pub AreCovered : List NameShards → Histories → TopicKey → Binding → List ℕ → ByteList
    → Type 0
AreCovered names hs key b upto dest =
    (shard : ℕ) → shard < shards_of names b.src
    → AreSent names hs b dest (shard_history names hs b.src shard)
    (checkpoint key hs.book shard) (slice_index upto shard)

-- a checkpoint that may be stored: over what the actor has seen, the topic is bound, each number
-- is reached, and where there is a destination what the topic takes was sent there
pub record MayStore (names : List NameShards) (seen : Histories) (key : TopicKey)
    (upto : List ℕ) : Type 0 where
  pub binding : Binding
  pub bound : binding_of key seen.book ≡ Some binding
  pub counted : length upto ≡ shards_of names binding.src
  pub reached : AreReached names seen binding.src upto
  pub sent : (dest : ByteList) → binding.dest ≡ Some dest
      → AreCovered names seen key binding upto dest

-- the event is allowed over these histories, to an actor who has seen those
abbrev pub IsAllowed : List NameShards → (seen hs : Histories) → Event → Type 0
IsAllowed names seen hs (Write actor cell step) = IsStep names hs actor cell step × ArePlain step
IsAllowed names seen hs (Look actor cell) = cell ≤ length hs.shards
IsAllowed names seen hs (Send actor cell src step) =
    IsStep names hs actor cell step × IsDispatch names seen cell src step
IsAllowed names seen hs (Bind actor key b) = MayJoin names hs.book (book.Bind actor key b)
IsAllowed names seen hs (Store actor key upto) = MayStore names seen key upto
IsAllowed names seen hs (Forget actor) = Unit {0}
