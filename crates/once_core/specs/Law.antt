-- The law that all histories together keep: what was delivered, in which order, and how much of it
-- a checkpoint stands for (own).
use Rattle.std.specs.Prelude.{ℕ, ◌≡◌, ◌<◌, ◌≤◌, max, true, List, [], slice_index, Option, Some}
use Rattle.std.specs.Prelude.{None}
use Rattle.std.specs.List.{AllByRecursion}
use Rattle.tuple_values.specs.Document.{ByteList, Doc}
use Rattle.tuple_values.specs.declared.names.NameShards.{NameShards}
use Rattle.query_syntax.specs.Meaning.{IsReadable, text_matches}
use Rattle.shard_versions.specs.Documents.{id_of, IsFrom}
use Rattle.shard_versions.specs.Histories.{History, slots, write_at, top, current, IsVersioned}
use Rattle.shard_versions.specs.Deliveries.{sents, IsRising, Reaches, AreSentsSettled}
use Rattle.shard_versions.specs.Fitness.{IsFit}
use Rattle.shard_versions.specs.declared.entry.Kind.{Kind}
use Rattle.shard_versions.specs.declared.entry.Kind.TheVariants.{Put, Del, Sent, Mark}
use Rattle.shard_versions.specs.declared.entry.Entry.{Entry}
use Rattle.topic_book.specs.Books.{binding_of, checkpoint}
use Rattle.topic_book.specs.Fitness.{shards_of, IsFitBook}
use Rattle.topic_book.specs.declared.topic.TopicKey.{TopicKey}
use Rattle.topic_book.specs.declared.topic.Binding.{Binding}
use Rattle.topic_book.specs.declared.topic.BookEntry.{BookEntry}
use Rattle.topic_book.specs.declared.topic.BookEntry.TheVariants.{Bind, Store}
use Rattle.once_core.specs.Cells.{Place, place_of, history_at, shard_history, home_history}
use Rattle.once_core.specs.declared.world.Histories.{Histories}

-- the entries belong at this place; where there is none, there is none of them
abbrev pub IsFitAt : Option Place → List Entry → Type 0
IsFitAt None entries = entries ≡ []
IsFitAt (Some place) entries = IsFit place.shards place.shard entries

-- the entries belong in this cell
unfoldable pub IsFitCell : List NameShards → ℕ → List Entry → Type 0
IsFitCell names cell entries = IsFitAt (place_of names cell) entries

-- the query of a Bind can be read
abbrev pub IsReadableEntry : BookEntry → Type 0
IsReadableEntry (Bind by key b) = IsReadable b.q
IsReadableEntry (Store by key upto) = Unit {0}

-- the topic takes the document, which is as it is read
unfoldable pub takes : Binding → Doc → Type 0
takes b doc = text_matches b.q doc ≡ true

-- the document is a delivery from a committed write of its source, to the cell
pub record IsDelivery (names : List NameShards) (hs : Histories) (cell : ℕ) (src : ByteList)
    (version : ℕ) (delivered : Doc) : Type 0 where
  pub doc : Doc
  pub reached : version ≤ top (home_history names hs src (id_of delivered))
  pub written : write_at version (slots (home_history names hs src (id_of delivered)))
      ≡ Some (record { version = version; id = id_of delivered; left = Some doc })
  pub is_from : IsFrom delivered src version doc

-- where the entry is a Sent, it is such a delivery
abbrev pub IsTrueKind : List NameShards → Histories → ℕ → Kind → Type 0
IsTrueKind names hs cell (Put doc) = Unit {0}
IsTrueKind names hs cell (Del id) = Unit {0}
IsTrueKind names hs cell (Sent src version doc) = IsDelivery names hs cell src version doc
IsTrueKind names hs cell Mark = Unit {0}

-- each Sent among these entries of the cell is such a delivery
unfoldable pub AreTrue : List NameShards → Histories → ℕ → List Entry → Type 0
AreTrue names hs cell entries = AllByRecursion (λ e. IsTrueKind names hs cell e.kind) entries

-- a version of this document was sent to the destination, this one or a later one
abbrev pub IsSent : List NameShards → Histories → Binding → ByteList → ℕ × Doc → Type 0
IsSent names hs b dest p =
    Reaches p.0 (sents b.src (id_of p.1) (home_history names hs dest (id_of p.1)))

-- where the topic takes the document and its version is above `low` and at most `high`, it was sent
abbrev pub IsSentIfTaken : List NameShards → Histories → Binding → ByteList → (low high : ℕ)
    → ℕ × Doc → Type 0
IsSentIfTaken names hs b dest low high p =
    takes b p.1 → low < p.0 → p.0 ≤ high → IsSent names hs b dest p

-- each current document of this history that the topic takes, above `low` and at most `high`, was
-- sent to the destination in its version or a later one
unfoldable pub AreSent : List NameShards → Histories → Binding → ByteList → History
    → (low high : ℕ) → Type 0
AreSent names hs b dest h low high =
    AllByRecursion (IsSentIfTaken names hs b dest low high) (current h)

-- a checkpoint is right at a shard of the topic's source, which has this history
pub record IsCovered (names : List NameShards) (hs : Histories) (b : Binding) (shard : ℕ)
    (h : History) (upto : ℕ) : Type 0 where
  pub bounded : upto ≤ max (top h) (slice_index b.init shard)
  pub sent : (dest : ByteList) → b.dest ≡ Some dest
      → AreSent names hs b dest h (slice_index b.init shard) upto

-- provenance, rising versions and coverage, over histories that are fit
pub record IsLaw (names : List NameShards) (hs : Histories) : Type 0 where
  pub fit : (cell : ℕ) → IsFitCell names cell (history_at hs cell)
  pub versioned : (cell : ℕ) → IsVersioned (history_at hs cell)
  pub fit_book : IsFitBook names hs.book
  pub readable : AllByRecursion IsReadableEntry hs.book
  -- provenance: a Mark follows each Sent, which is a delivery of a committed write
  pub settled : (cell : ℕ) → AreSentsSettled (history_at hs cell)
  pub true_sents : (cell : ℕ) → AreTrue names hs cell (history_at hs cell)
  -- rising versions: those of one source and id rise strictly
  pub rising : (cell : ℕ) (src id : ByteList) → IsRising (sents src id (history_at hs cell))
  -- coverage: up to its checkpoint, each current document that a topic takes was sent
  pub covered : (key : TopicKey) (b : Binding) → binding_of key hs.book ≡ Some b
      → (shard : ℕ) → shard < shards_of names b.src
      → IsCovered names hs b shard (shard_history names hs b.src shard)
      (checkpoint key hs.book shard)
