-- What the writers of a load do at its site (own).
use Rattle.std.specs.Prelude.{ℕ, ◌<◌, ◌≤◌, ◌≡◌, ◌++◌, false, [], Some, filter, get_or, length, map, take}
use Rattle.std.specs.List.{AllByRecursion}
use Rattle.shard_versions.specs.Fitness.{is_routed}
use Rattle.shard_versions.specs.Histories.{is_pending, top}
use Rattle.shard_versions.specs.declared.entry.Kind.TheVariants.{Put}
use Rattle.topic_book.specs.Books.{binding_of, checkpoint}
use Rattle.topic_book.specs.Cells.{cell_of}
use Rattle.topic_book.specs.declared.topic.Binding.{Binding}
use Rattle.topic_book.specs.declared.topic.BookEntry.{BookEntry}
use Rattle.topic_book.specs.declared.topic.BookEntry.TheVariants.{Bind, Store}
use Rattle.exchange_rules.specs.Bindings.{book_cell}
use Rattle.exchange_rules.specs.Cells.{Log, book_in, history_in}
use Rattle.exchange_rules.specs.Following.{Grows, Writer}
use Rattle.exchange_rules.specs.Own.{by_writer}
use Rattle.site_laws.specs.SiteCells.{histories_in}
use Rattle.load_rules.specs.Documents.{indexed_documents}
use Rattle.load_rules.specs.Loaded.{IsDeliveredKind, writes_in}
use Rattle.load_rules.specs.Topic.{dest_name, load_binding, load_key, load_names, src_name}

-- the cell of a shard of the source, and of the destination
abbrev pub src_cell : ℕ → ℕ
src_cell shard = cell_of load_names src_name shard

abbrev pub dest_cell : ℕ → ℕ
dest_cell shard = cell_of load_names dest_name shard

-- a writer's own entries in what it has seen of a cell
abbrev pub own_at : Writer → ℕ → Log
own_at w cell = by_writer w.me (get_or w.seen cell [])

-- from old to new the writer appended these entries to each cell, and has seen no less
pub record HasAdded (steps : ℕ → Log) (old new : Writer) : Type 0 where
  pub same : new.me ≡ old.me
  pub grown : Grows old.seen new.seen
  pub own : (cell : ℕ) → own_at new cell ≡ own_at old cell ++ steps cell

-- it appended nothing
abbrev pub HasRead : Writer → Writer → Type 0
HasRead old new = HasAdded (λ cell. []) old new

-- it appended the documents of this indexer, of so many in all: to each shard of the source those
-- that route there, in order, each of which a Mark follows; and nothing to another cell
pub record HasIndexed (n indexer : ℕ) (old new : Writer) : Type 0 where
  pub steps : ℕ → Log
  pub added : HasAdded steps old new
  pub written : (shard : ℕ) → shard < 4
      → writes_in (history_in (steps (src_cell shard)))
      ≡ filter (is_routed 4 shard) (map Put (indexed_documents n indexer))
  pub closed : (shard : ℕ) → shard < 4 → is_pending (history_in (steps (src_cell shard))) ≡ false
  pub elsewhere : (cell : ℕ) → 4 ≤ cell → steps cell ≡ []

-- the entry is of the load's topic, which it binds as the load does
abbrev pub IsOfTopic : BookEntry → Type 0
IsOfTopic (Bind by key b) = (key ≡ load_key) × (b ≡ load_binding)
IsOfTopic (Store by key upto) = key ≡ load_key

-- it appended what the load's topic gives of what it has seen to shards of the destination, and
-- to the book what is of the topic, and nothing to a shard of the source
pub record HasRun (old new : Writer) : Type 0 where
  pub steps : ℕ → Log
  pub added : HasAdded steps old new
  pub delivered : (shard : ℕ) → shard < 4
      → AllByRecursion (λ e. IsDeliveredKind (histories_in load_names new.seen) e.kind)
      (history_in (steps (dest_cell shard)))
  pub booked : AllByRecursion IsOfTopic (book_in (steps (book_cell load_names)))
  pub elsewhere : (cell : ℕ) → cell < 4 → steps cell ≡ []

-- the topic's checkpoint has reached the top of some first part of a shard of the source, in
-- which is all that the writer had seen before
pub record HasReached (old new : Writer) (shard : ℕ) : Type 0 where
  pub upto : ℕ
  pub since : length (get_or old.seen (src_cell shard) []) ≤ upto
  pub within : upto ≤ length (get_or new.seen (src_cell shard) [])
  pub reached : top (history_in (take upto (get_or new.seen (src_cell shard) [])))
      ≤ checkpoint load_key (histories_in load_names new.seen).book shard

-- the same at each shard, and the topic is bound
pub record HasDelivered (old new : Writer) : Type 0 where
  pub run : HasRun old new
  pub reached : (shard : ℕ) → shard < 4 → HasReached old new shard
  pub binding : Binding
  pub bound : binding_of load_key (histories_in load_names new.seen).book ≡ Some binding
