-- The book of topics: what each topic is bound to, and how far it was delivered (own).
use Rattle.std.specs.Prelude.{ℕ, suc, zero, ◌+◌, ◌≡◌, ◌<◌, max, Bool, nat_lt, true, false, ◌&&◌, ◌||◌, List, [], ◌∷◌, ◌++◌, length, map, slice_index, Option, Some, None, option_map, bytes_eq, if◌then◌else◌}
use Rattle.tuple_values.specs.Document.{ByteList}
use Rattle.topic_book.specs.declared.topic.TopicKey.{TopicKey}
use Rattle.topic_book.specs.declared.topic.Binding.{Binding}
use Rattle.topic_book.specs.declared.topic.BookEntry.{BookEntry}
use Rattle.topic_book.specs.declared.topic.BookEntry.TheVariants.{Bind, Store}

-- a book is the list of its entries
abbrev pub Book : Type 0
Book = List BookEntry

-- whether the keys are the same
abbrev pub same_key : TopicKey → TopicKey → Bool
same_key a b = bytes_eq a.checkpoints b.checkpoints && bytes_eq a.id b.id

-- what the topic is bound to
unfoldable pub binding_of : TopicKey → Book → Option Binding
binding_of key [] = None
binding_of key (Bind by k b ∷ book) = if same_key key k then Some b else binding_of key book
binding_of key (Store by k u ∷ book) = binding_of key book

-- the topic's checkpoint at a shard: the greatest of its initial one and of all that were stored
unfoldable pub checkpoint : TopicKey → Book → ℕ → ℕ
checkpoint key [] shard = 0
checkpoint key (Bind by k b ∷ book) shard =
    if same_key key k
    then max (slice_index b.init shard) (checkpoint key book shard)
    else checkpoint key book shard
checkpoint key (Store by k u ∷ book) shard =
    if same_key key k
    then max (slice_index u shard) (checkpoint key book shard)
    else checkpoint key book shard

-- the values of a function at so many numbers from a first one on
abbrev pub values_from : (ℕ → ℕ) → ℕ → ℕ → List ℕ
values_from f first zero = []
values_from f first (suc count) = f first ∷ values_from f (first + 1) count

-- the checkpoint of a topic that is bound so, at each shard in order
unfoldable pub checkpoints_at : TopicKey → Book → Binding → List ℕ
checkpoints_at key book b = values_from (checkpoint key book) 0 (length b.init)

-- the topic's checkpoint at each shard, where it is bound
unfoldable pub checkpoints : TopicKey → Book → Option (List ℕ)
checkpoints key book = option_map (checkpoints_at key book) (binding_of key book)

-- whether one of the numbers is above the checkpoint at its shard, counted from this one
abbrev pub is_above : TopicKey → Book → ℕ → List ℕ → Bool
is_above key book shard [] = false
is_above key book shard (u ∷ us) =
    nat_lt (checkpoint key book shard) u || is_above key book (shard + 1) us

-- whether the numbers raise the topic's checkpoint somewhere
unfoldable pub raises : TopicKey → Book → List ℕ → Bool
raises key book upto = is_above key book 0 upto

-- how many topics are bound
unfoldable pub topics_in : Book → ℕ
topics_in [] = 0
topics_in (Bind by k b ∷ book) = topics_in book + 1
topics_in (Store by k u ∷ book) = topics_in book

-- the bindings agree in all but the initial checkpoint
pub record IsAlike (a b : Binding) : Type 0 where
  pub src : a.src ≡ b.src
  pub q : a.q ≡ b.q
  pub fields : a.fields ≡ b.fields
  pub dest : a.dest ≡ b.dest
