-- The first shard of a topic's source at which its checkpoint isn't right (own).
use Rattle.std.specs.Prelude.{ℕ, ◌≡◌, ◌<◌, List, [], ◌∷◌, Option, Some, None}
use Rattle.tuple_values.specs.declared.names.NameShards.{NameShards}
use Rattle.topic_book.specs.Books.{checkpoint}
use Rattle.topic_book.specs.Fitness.{shards_of}
use Rattle.topic_book.specs.declared.topic.TopicKey.{TopicKey}
use Rattle.topic_book.specs.declared.topic.Binding.{Binding}
use Rattle.topic_book.specs.declared.topic.BookEntry.{BookEntry}
use Rattle.topic_book.specs.declared.topic.BookEntry.TheVariants.{Bind}
use Rattle.once_core.specs.Cells.{shard_history}
use Rattle.once_core.specs.Law.{IsCovered}
use Rattle.once_core.specs.declared.world.Histories.{Histories}
use Rattle.law_checks.specs.Coverage.{AreCoveredBelow, AreAllCovered}

-- the topic's checkpoint at this shard is this number and isn't right, and at the lower ones it is
pub record IsFirstShard (names : List NameShards) (hs : Histories) (key : TopicKey) (b : Binding)
    (shard upto : ℕ) : Type 0 where
  pub in_range : shard < shards_of names b.src
  pub number : upto ≡ checkpoint key hs.book shard
  pub uncovered : ¬ (IsCovered names hs b shard (shard_history names hs b.src shard) upto)
  pub shards : AreCoveredBelow names hs key b shard

-- the first such shard; none where the checkpoint is right at each
abbrev pub IsFirstShardOf : List NameShards → Histories → TopicKey → Binding → Option (ℕ × ℕ)
    → Type 0
IsFirstShardOf names hs key b None = AreCoveredBelow names hs key b (shards_of names b.src)
IsFirstShardOf names hs key b (Some at) = IsFirstShard names hs key b at.0 at.1

-- the entry binds the topic, and this is the first shard at which its checkpoint isn't right
pub record IsFirstHere (names : List NameShards) (hs : Histories) (e : BookEntry) (key : TopicKey)
    (shard upto : ℕ) : Type 0 where
  pub binding : Binding
  pub by : ℕ
  pub here : e ≡ Bind by key binding
  pub first : IsFirstShard names hs key binding shard upto

-- the same where there is one; none where the checkpoint of what the entry binds is right
abbrev pub IsFirstOfEntry : List NameShards → Histories → BookEntry → Option (TopicKey × ℕ × ℕ)
    → Type 0
IsFirstOfEntry names hs e None = AreAllCovered names hs (e ∷ [])
IsFirstOfEntry names hs e (Some at) = IsFirstHere names hs e at.0 at.1 at.2
