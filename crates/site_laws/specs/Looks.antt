-- What a look at a cell of a site tells of the topics, and what stays of it from one moment of a
-- writer to a later one (own).
use Rattle.std.specs.Prelude.{ℕ, ◌+◌, ◌≡◌, ◌<◌, ◌≤◌, max, List, [], get_or, set, slice_index, Some}
use Rattle.std.specs.List.{AllByRecursion}
use Rattle.tuple_values.specs.Document.{ByteList, Doc}
use Rattle.tuple_values.specs.Keys.{shard_of}
use Rattle.tuple_values.specs.declared.names.NameShards.{NameShards}
use Rattle.shard_versions.specs.Deliveries.{Reaches, sents}
use Rattle.shard_versions.specs.Documents.{id_of}
use Rattle.shard_versions.specs.Histories.{History, current, top}
use Rattle.topic_book.specs.Books.{binding_of, checkpoint}
use Rattle.topic_book.specs.Cells.{cells_in}
use Rattle.topic_book.specs.Fitness.{shards_of}
use Rattle.topic_book.specs.declared.topic.Binding.{Binding}
use Rattle.topic_book.specs.declared.topic.TopicKey.{TopicKey}
use Rattle.once_core.specs.Cells.{cell_of, history_at, home_history}
use Rattle.once_core.specs.Law.{IsCovered, takes}
use Rattle.exchange_rules.specs.Cells.{Log, history_in}
use Rattle.site_laws.specs.SiteCells.{histories_in, AreSeenOf}

-- the topic is bound so in the book that was seen, and the cell is this shard of its source
pub record IsSource (names : List NameShards) (seen : List Log) (cell : ℕ) (key : TopicKey)
    (b : Binding) (shard : ℕ) : Type 0 where
  pub bound : binding_of key (histories_in names seen).book ≡ Some b
  pub below : shard < shards_of names b.src
  pub here : cell_of names b.src shard ≡ cell

-- the topic's checkpoint at this shard of its source, in the book that was seen
abbrev pub upto_of : List NameShards → List Log → TopicKey → ℕ → ℕ
upto_of names seen key shard = checkpoint key (histories_in names seen).book shard

-- what a look at a cell tells: of each topic with this cell in its source, its checkpoint is right
-- over the history that was seen, and what it stands for was sent
abbrev pub IsLookCovered : List NameShards → ℕ → List Log → List Log → Type 0
IsLookCovered names cell seen logs =
    (key : TopicKey) (b : Binding) (shard : ℕ) → IsSource names seen cell key b shard
    → IsCovered names (histories_in names logs) b shard (history_at (histories_in names seen) cell)
    (upto_of names seen key shard)

-- where the document's id routes to this shard of the destination and the topic takes the document,
-- above `low` and at most `high`, this history of that shard has its version or a later one
abbrev pub IsSentTo : List NameShards → Binding → ByteList → ℕ → History → (low high : ℕ)
    → ℕ × Doc → Type 0
IsSentTo names b dest there h low high p =
    shard_of (shards_of names dest) (id_of p.1) ≡ there
    → takes b p.1 → low < p.0 → p.0 ≤ high → Reaches p.0 (sents b.src (id_of p.1) h)

-- a checkpoint is right at a shard of the source, which had the first history, and what it stands
-- for at this shard of the destination is in the second
pub record IsCoveredAt (names : List NameShards) (b : Binding) (shard : ℕ) (dest : ByteList)
    (there : ℕ) (source delivered : History) (upto : ℕ) : Type 0 where
  pub bounded : upto ≤ max (top source) (slice_index b.init shard)
  pub sent : AllByRecursion
      (IsSentTo names b dest there delivered (slice_index b.init shard) upto) (current source)

-- the cell is this shard of the topic's destination
pub record IsTarget (names : List NameShards) (cell : ℕ) (b : Binding) (dest : ByteList)
    (there : ℕ) : Type 0 where
  pub to : b.dest ≡ Some dest
  pub in_range : cell < cells_in names
  pub here : cell_of names dest there ≡ cell

-- what a look at the source's cell told, when this was seen, is in the log of the destination's cell
abbrev pub CoversAt : List NameShards → List Log → (source target : ℕ) → Log → Type 0
CoversAt names seen source target log =
    (key : TopicKey) (b : Binding) (shard : ℕ) (dest : ByteList) (there : ℕ)
    → IsSource names seen source key b shard → IsTarget names target b dest there
    → IsCoveredAt names b shard dest there (history_at (histories_in names seen) source)
    (history_in log) (upto_of names seen key shard)

-- what a writer has seen of each cell, how often it looked at each, and what it had seen of all
-- cells at its last look at each
pub record Sight : Type 0 where
  pub seen : List Log
  pub looks : List ℕ
  pub asof : List (List Log)

-- what had been seen of all cells at the last look at this one
abbrev pub last_seen : Sight → ℕ → List Log
last_seen sight cell = get_or sight.asof cell []

-- the sight after a look at the cell, which has this log
abbrev pub looked_at : ℕ → Log → Sight → Sight
looked_at cell log sight = record {
  seen = set sight.seen cell log;
  looks = set sight.looks cell (slice_index sight.looks cell + 1);
  asof = set sight.asof cell (set sight.seen cell log);
}

-- looks are counted and logs grow; of a cell that wasn't looked at again the last look is the same,
-- and what it told is seen at each cell that was looked at since
pub record IsLater (names : List NameShards) (old new : Sight) : Type 0 where
  pub counted : (cell : ℕ) → slice_index old.looks cell ≤ slice_index new.looks cell
  pub grown : AreSeenOf old.seen new.seen
  pub still : (cell : ℕ) → slice_index new.looks cell ≡ slice_index old.looks cell
      → last_seen new cell ≡ last_seen old cell
  pub covers : (source target : ℕ) → slice_index new.looks source ≡ slice_index old.looks source
      → 0 < slice_index old.looks source
      → slice_index old.looks target < slice_index new.looks target
      → CoversAt names (last_seen new source) source target (get_or new.seen target [])

-- of a document that a topic takes, above `low` and at most `high`, what was seen of the
-- destination has its version or a later one
abbrev pub IsSeenSent : List NameShards → List Log → Binding → ByteList → (low high : ℕ)
    → ℕ × Doc → Type 0
IsSeenSent names seen b dest low high p =
    takes b p.1 → low < p.0 → p.0 ≤ high
    → Reaches p.0 (sents b.src (id_of p.1)
    (home_history names (histories_in names seen) dest (id_of p.1)))

-- what a topic with this source and destination had stored when a shard of its source was last
-- looked at is in what has been seen of the destination, also for what has been seen of the source
-- since
abbrev pub AreStoresSeen : List NameShards → Sight → ByteList → ByteList → Type 0
AreStoresSeen names sight src dest =
    (key : TopicKey) (b : Binding) (shard cell : ℕ) → 0 < slice_index sight.looks cell
    → IsSource names (last_seen sight cell) cell key b shard → b.src ≡ src → b.dest ≡ Some dest
    → AllByRecursion (IsSeenSent names sight.seen b dest (slice_index b.init shard)
    (upto_of names (last_seen sight cell) key shard))
    (current (history_at (histories_in names sight.seen) cell))
