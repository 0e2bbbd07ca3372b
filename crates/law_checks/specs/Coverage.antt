-- The first checkpoint that stands for more than was sent (own).
use Rattle.std.specs.Prelude.{ℕ, ◌≡◌, ◌<◌, List, take, Option, Some, None}
use Rattle.std.specs.List.{slice_get}
use Rattle.tuple_values.specs.declared.names.NameShards.{NameShards}
use Rattle.topic_book.specs.Books.{Book, binding_of, checkpoint}
use Rattle.topic_book.specs.Fitness.{shards_of}
use Rattle.topic_book.specs.declared.topic.TopicKey.{TopicKey}
use Rattle.topic_book.specs.declared.topic.Binding.{Binding}
use Rattle.topic_book.specs.declared.topic.BookEntry.TheVariants.{Bind}
use Rattle.once_core.specs.Cells.{shard_history}
use Rattle.once_core.specs.Law.{IsCovered}
use Rattle.once_core.specs.declared.world.Histories.{Histories}

-- the checkpoint of a topic that is bound so is right at this shard of its source
abbrev pub IsCoveredAt : List NameShards → Histories → TopicKey → Binding → ℕ → Type 0
IsCoveredAt names hs key b shard =
    IsCovered names hs b shard (shard_history names hs b.src shard) (checkpoint key hs.book shard)

-- it is right at each of the first so many shards of its source
abbrev pub AreCoveredBelow : List NameShards → Histories → TopicKey → Binding → ℕ → Type 0
AreCoveredBelow names hs key b count =
    (shard : ℕ) → shard < count → IsCoveredAt names hs key b shard

-- the checkpoint of each topic that is bound in these entries of the book is right at each shard
abbrev pub AreAllCovered : List NameShards → Histories → Book → Type 0
AreAllCovered names hs book =
    (key : TopicKey) (b : Binding) → binding_of key book ≡ Some b
    → AreCoveredBelow names hs key b (shards_of names b.src)

-- the checkpoint of this topic at this shard of its source is this number and stands for more than
-- was sent, and no one before it does: of the topics that were bound before, and of the lower shards
pub record IsFirstUncovered (names : List NameShards) (hs : Histories) (key : TopicKey)
    (shard upto : ℕ) : Type 0 where
  pub binding : Binding
  pub bound : binding_of key hs.book ≡ Some binding
  pub in_range : shard < shards_of names binding.src
  pub number : upto ≡ checkpoint key hs.book shard
  pub uncovered : ¬ (IsCovered names hs binding shard (shard_history names hs binding.src shard) upto)
  pub shards : AreCoveredBelow names hs key binding shard
  pub place : ℕ
  pub by : ℕ
  pub here : slice_get hs.book place ≡ Some (Bind by key binding)
  pub topics : AreAllCovered names hs (take place hs.book)

-- the first checkpoint that stands for more than was sent; none exactly where all are right
abbrev pub IsFirstUncoveredOf : List NameShards → Histories → Option (TopicKey × ℕ × ℕ) → Type 0
IsFirstUncoveredOf names hs None = AreAllCovered names hs hs.book
IsFirstUncoveredOf names hs (Some at) = IsFirstUncovered names hs at.0 at.1 at.2
