-- Which entries may follow in a book (own).
use Rattle.std.specs.Prelude.{ℕ, ◌≡◌, ◌≢◌, ◌<◌, List, [], ◌∷◌, ◌++◌, length, Option, Some, None}
use Rattle.std.specs.List.{AllByRecursion}
use Rattle.tuple_values.specs.Document.{ByteList}
unfoldable pub use Rattle.tuple_values.specs.Collections.{shards_of}
use Rattle.tuple_values.specs.declared.names.NameShards.{NameShards}
use Rattle.topic_book.specs.Books.{Book, binding_of}
use Rattle.topic_book.specs.declared.topic.TopicKey.{TopicKey}
use Rattle.topic_book.specs.declared.topic.Binding.{Binding}
use Rattle.topic_book.specs.declared.topic.BookEntry.{BookEntry}
use Rattle.topic_book.specs.declared.topic.BookEntry.TheVariants.{Bind, Store}

-- there is a binding, and the numbers are as many as its initial ones
abbrev pub IsOfTopic : Option Binding → List ℕ → Type 0
IsOfTopic None upto = ⊥
IsOfTopic (Some b) upto = length upto ≡ length b.init

-- a Bind may follow where its topic isn't bound, a Store where its topic is
abbrev pub MayFollow : Book → BookEntry → Type 0
MayFollow book (Bind by key b) = binding_of key book ≡ None
MayFollow book (Store by key upto) = IsOfTopic (binding_of key book) upto

-- each of these entries may follow those before it
unfoldable pub IsOrdered : Book → List BookEntry → Type 0
IsOrdered before [] = Unit {0}
IsOrdered before (e ∷ es) = MayFollow before e × IsOrdered (before ++ e ∷ []) es

-- a destination is another collection than the source, and is known
abbrev pub IsFitDestination : List NameShards → ByteList → Option ByteList → Type 0
IsFitDestination names src None = Unit {0}
IsFitDestination names src (Some dest) = (src ≢ dest) × (0 < shards_of names dest)

-- the topic is on known collections, with one initial number for each shard of its source
pub record IsOnCollections (names : List NameShards) (key : TopicKey) (b : Binding) : Type 0 where
  pub checkpoints : 0 < shards_of names key.checkpoints
  pub src : 0 < shards_of names b.src
  pub dest : IsFitDestination names b.src b.dest
  pub counted : length b.init ≡ shards_of names b.src

-- where the entry is a Bind, its topic is on known collections
abbrev pub IsFitEntry : List NameShards → BookEntry → Type 0
IsFitEntry names (Bind by key b) = IsOnCollections names key b
IsFitEntry names (Store by key upto) = Unit {0}

-- the book is in order, and its topics are on known collections
pub record IsFitBook (names : List NameShards) (book : Book) : Type 0 where
  pub ordered : IsOrdered [] book
  pub fit : AllByRecursion (IsFitEntry names) book
