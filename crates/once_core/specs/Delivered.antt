-- The promise of delivery, over the histories alone (own).
use Rattle.std.specs.Prelude.{ℕ, ◌≡◌, ◌≢◌, ◌<◌, ◌≤◌, Bool, true, false, List, [], slice_index, Some}
use Rattle.std.specs.Prelude.{Contains, bytes_eq}
use Rattle.std.specs.List.{AllByRecursion}
use Rattle.tuple_values.specs.Document.{ByteList, Doc}
use Rattle.tuple_values.specs.Keys.{shard_of}
use Rattle.tuple_values.specs.declared.names.NameShards.{NameShards}
use Rattle.shard_versions.specs.Documents.{id_of, with_version, IsFrom}
use Rattle.shard_versions.specs.Histories.{History, current}
use Rattle.shard_versions.specs.Deliveries.{sents, IsRising}
use Rattle.shard_versions.specs.declared.entry.Kind.{Kind}
use Rattle.shard_versions.specs.declared.entry.Kind.TheVariants.{Put, Del, Sent, Mark}
use Rattle.topic_book.specs.Books.{binding_of, checkpoint}
use Rattle.topic_book.specs.Fitness.{shards_of}
use Rattle.topic_book.specs.declared.topic.TopicKey.{TopicKey}
use Rattle.topic_book.specs.declared.topic.Binding.{Binding}
use Rattle.once_core.specs.Cells.{shard_history, home_history}
use Rattle.once_core.specs.Law.{takes}
use Rattle.once_core.specs.declared.world.Histories.{Histories}

-- whether the entry, where it is a write, is a delivery from this source
abbrev pub is_only_from : ByteList → Kind → Bool
is_only_from src (Put doc) = false
is_only_from src (Del id) = false
is_only_from src (Sent from version doc) = bytes_eq src from
is_only_from src Mark = true

-- each write of the history is a delivery from this source
abbrev pub IsOnlyFrom : ByteList → History → Type 0
IsOnlyFrom src h = AllByRecursion (λ e. is_only_from src e.kind ≡ true) h

-- a document that is current in the source, in its version there, is current in the destination's
-- history in that version: under its own version there is a delivery of it
pub record IsApplied (src : ByteList) (p : ℕ × Doc) (h : History) : Type 0 where
  pub version : ℕ
  pub delivered : Doc
  pub doc : Doc
  pub current_there : Contains (current h) (version, with_version version delivered)
  pub sent : Contains (sents src (id_of p.1) h) p.0
  pub same_id : id_of delivered ≡ id_of p.1
  pub read_as : p.1 ≡ with_version p.0 doc
  pub is_from : IsFrom delivered src p.0 doc

-- no shard of the destination but the one to which an id routes has a delivery of it from the
-- source, and there its versions rise, so in the whole destination each comes at most once
pub record ComesOnce (names : List NameShards) (hs : Histories) (src dest : ByteList)
    : Type 0 where
  pub at_home : (shard : ℕ) (id : ByteList) → shard < shards_of names dest
      → shard ≢ shard_of (shards_of names dest) id
      → sents src id (shard_history names hs dest shard) ≡ []
  pub rising : (shard : ℕ) (id : ByteList)
      → IsRising (sents src id (shard_history names hs dest shard))

-- each current document of the source's shard that the topic takes, above the initial checkpoint
-- and up to the stored one, is applied in the destination in its version
abbrev pub NoneIsLost : List NameShards → Histories → TopicKey → Binding → ByteList → ℕ → Type 0
NoneIsLost names hs key b dest shard =
    AllByRecursion
    (λ p. takes b p.1 → slice_index b.init shard < p.0 → p.0 ≤ checkpoint key hs.book shard
    → IsApplied b.src p (home_history names hs dest (id_of p.1)))
    (current (shard_history names hs b.src shard))

-- while nothing else writes its destination, a topic delivers each version at most once, rising
-- per id, and loses none
abbrev pub IsDelivered : List NameShards → Histories → Type 0
IsDelivered names hs =
    (key : TopicKey) (b : Binding) (dest : ByteList)
    → binding_of key hs.book ≡ Some b → b.dest ≡ Some dest
    → ((shard : ℕ) → shard < shards_of names dest
    → IsOnlyFrom b.src (shard_history names hs dest shard))
    → ComesOnce names hs b.src dest
    × ((shard : ℕ) → shard < shards_of names b.src → NoneIsLost names hs key b dest shard)
