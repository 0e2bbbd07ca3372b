-- What the writers of a load leave in the histories of its site (own).
use Rattle.std.specs.Prelude.{ℕ, suc, ◌^◌, ◌<◌, ◌≤◌, ◌≡◌, ◌≢◌, ◌==◌, false, not, List, Contains, codes, drop, filter, map, take, Some}
use Rattle.std.specs.List.{AllByRecursion}
use Rattle.tuple_values.specs.Document.{Doc, value_at}
use Rattle.shard_versions.specs.Documents.{id_of}
use Rattle.shard_versions.specs.Fitness.{is_routed}
use Rattle.shard_versions.specs.Histories.{History, current, is_mark, is_pending, top}
use Rattle.shard_versions.specs.declared.entry.Kind.{Kind}
use Rattle.shard_versions.specs.declared.entry.Kind.TheVariants.{Put, Del, Sent, Mark}
use Rattle.shard_versions.specs.declared.entry.Entry.{Entry}
use Rattle.topic_book.specs.Books.{binding_of, checkpoint}
use Rattle.once_core.specs.Cells.{shard_history}
use Rattle.once_core.specs.Law.{IsLaw, takes}
use Rattle.once_core.specs.declared.world.Histories.{Histories}
use Rattle.load_rules.specs.Documents.{indexed_documents}
use Rattle.load_rules.specs.Summary.{load_text, summary_of}
use Rattle.load_rules.specs.Topic.{dest_name, load_binding, load_key, load_names, src_name}

-- the entries of this writer, in order
abbrev pub by_author : ℕ → History → History
by_author me h = filter (λ e. e.by == me) h

-- the writes among these entries, in order
abbrev pub writes_in : History → List Kind
writes_in h = filter (λ k. not (is_mark k)) (map (λ e. e.kind) h)

-- at a shard of the source with this history, the writer whose number is one above the indexer's
-- wrote just the indexer's documents that route there, in order, and a Mark of its own follows
-- each; of some first part of the history, behind which none of its entries stands, the topic's
-- checkpoint has reached the top
pub record IsIndexed (n indexer shard checkpoint : ℕ) (h : History) : Type 0 where
  pub written : writes_in (by_author (suc indexer) h)
      ≡ filter (is_routed 4 shard) (map Put (indexed_documents n indexer))
  pub closed : is_pending (by_author (suc indexer) h) ≡ false
  pub upto : ℕ
  pub behind : AllByRecursion (λ e. e.by ≢ suc indexer) (drop upto h)
  pub reached : top (take upto h) ≤ checkpoint

-- where the entry is a write, it is one of an indexer
abbrev pub IsIndexerEntry : Entry → Type 0
IsIndexerEntry e = is_mark e.kind ≡ false → (indexer : ℕ) × (indexer < 4) × (e.by ≡ suc indexer)

-- this document was delivered from this version: at some time a shard of the source had a
-- document current in it which the topic takes, and the delivered one has its id, amount and
-- revision
pub record IsDelivered (hs : Histories) (version : ℕ) (sent : Doc) : Type 0 where
  pub shard : ℕ
  pub within : shard < 4
  pub upto : ℕ
  pub doc : Doc
  pub current : Contains (current (take upto (shard_history load_names hs src_name shard)))
      (version, doc)
  pub taken : takes load_binding doc
  pub same_id : id_of sent ≡ id_of doc
  pub same_amount : value_at (codes "a_i") sent ≡ value_at (codes "a_i") doc
  pub same_revision : value_at (codes "rev_i") sent ≡ value_at (codes "rev_i") doc

-- the kind is such a delivery, or a Mark
abbrev pub IsDeliveredKind : Histories → Kind → Type 0
IsDeliveredKind hs (Put document) = ⊥
IsDeliveredKind hs (Del id) = ⊥
IsDeliveredKind hs (Sent from version document) =
    (from ≡ src_name) × IsDelivered hs version document
IsDeliveredKind hs Mark = Unit {0}

-- a load of so many documents, fewer than 2^64, was made, and then the topic was delivered once
-- more by each indexer: the law holds, each indexer wrote its documents and nobody else wrote to
-- the source, the destination has only what the topic gives, and the topic is bound and has
-- reached each indexer's writes
pub record IsLoaded (n : ℕ) (hs : Histories) : Type 0 where
  pub few : n < 2 ^ 64
  pub law : IsLaw load_names hs
  pub indexed : (indexer shard : ℕ) → indexer < 4 → shard < 4
      → IsIndexed n indexer shard (checkpoint load_key hs.book shard)
      (shard_history load_names hs src_name shard)
  pub alone : (shard : ℕ) → shard < 4
      → AllByRecursion IsIndexerEntry (shard_history load_names hs src_name shard)
  pub delivered : (shard : ℕ) → shard < 4
      → AllByRecursion (λ e. IsDeliveredKind hs e.kind)
      (shard_history load_names hs dest_name shard)
  pub bound : binding_of load_key hs.book ≡ Some load_binding

-- where a load was made, the summary of its histories is that of its documents
abbrev pub LoadsAreTold : Type 0
LoadsAreTold = (n : ℕ) (hs : Histories) → IsLoaded n hs → summary_of hs ≡ load_text n
