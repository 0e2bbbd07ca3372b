-- What the state of a book is seen as, and the answers to a Bind (own).
use Rattle.std.specs.Prelude.{ℕ, ◌≡◌, ◌<◌, ◌≤◌, ◌++◌, ◌∷◌, [], List, Option, Some, None, if◌then◌else◌}
use Rattle.topic_book.specs.Books.{Book, binding_of, topics_in, raises, IsAlike}
use Rattle.topic_book.specs.Raises.{new_topic}
use Rattle.topic_book.specs.declared.topic.TopicKey.{TopicKey}
use Rattle.topic_book.specs.declared.topic.Binding.{Binding}
use Rattle.topic_book.specs.declared.topic.BookEntry.{BookEntry}
use Rattle.topic_book.specs.declared.topic.BookEntry.TheVariants.{Bind, Store}
use Rattle.topic_book.specs.declared.topics.Topic.{Topic}
use Rattle.topic_book.specs.declared.fault.BookFault.{BookFault}
use Rattle.topic_book.specs.declared.fault.BookFault.TheVariants.{TopicBound, BookFull, OutOfMemory}

-- the whole book, for how many entries it has room, and the topic that was made ready
pub record Kept : Type 0 where
  pub entries : Book
  pub room : ℕ
  pub ready : Option Topic

-- the state can take the entry without memory
unfoldable pub HasRoom : Kept → BookEntry → Type 0
HasRoom kept (Bind by key b) = (0 < kept.room) × (kept.ready ≡ Some (new_topic key b))
HasRoom kept (Store by key upto) = 0 < kept.room

-- a topic that isn't bound may be where there are fewer than 1,000, and a bound one only alike
abbrev pub IsOpen : Option Binding → ℕ → Binding → Type 0
IsOpen None topics b = topics < 1000
IsOpen (Some kept) topics b = IsAlike kept b

-- the topic is bound to these values, and not alike
pub record IsTaken (bound : Option Binding) (b kept : Binding) : Type 0 where
  pub is_kept : bound ≡ Some kept
  pub differs : IsAlike kept b → ⊥

-- the topic isn't bound, and there are as many topics as the answer says, 1,000 or more
pub record IsFull (bound : Option Binding) (topics answer : ℕ) : Type 0 where
  pub unbound : bound ≡ None
  pub counted : answer ≡ topics
  pub many : 1000 ≤ topics

-- why a topic isn't bound, by what it is bound to and how many there are
abbrev pub IsRefusal : Option Binding → ℕ → Binding → BookFault → Type 0
IsRefusal bound topics b (TopicBound kept) = IsTaken bound b kept
IsRefusal bound topics b (BookFull answer) = IsFull bound topics answer
IsRefusal bound topics b OutOfMemory = Unit {0}

-- the entry's topic may be bound so; a Store binds nothing
abbrev pub IsOpenFor : (TopicKey → Option Binding) → ℕ → BookEntry → Type 0
IsOpenFor bound topics (Bind by key b) = IsOpen (bound key) topics b
IsOpenFor bound topics (Store by key upto) = Unit {0}

-- why an entry gets no room; a Store only for want of memory
abbrev pub IsRefusalFor : (TopicKey → Option Binding) → ℕ → BookEntry → BookFault → Type 0
IsRefusalFor bound topics (Bind by key b) fault = IsRefusal (bound key) topics b fault
IsRefusalFor bound topics (Store by key upto) fault = fault ≡ OutOfMemory

-- the topic of an entry that binds one anew
abbrev pub IsReadyFor : (TopicKey → Option Binding) → BookEntry → Option Topic → Type 0
IsReadyFor bound (Bind by key b) ready = bound key ≡ None → ready ≡ Some (new_topic key b)
IsReadyFor bound (Store by key upto) ready = Unit {0}

-- the book takes the entry, whose topic may be bound so
abbrev pub IsOpenTo : Book → BookEntry → Type 0
IsOpenTo book entry = IsOpenFor (λ key. binding_of key book) (topics_in book) entry

-- why the book gives the entry no room
abbrev pub IsCauseOf : Book → BookEntry → BookFault → Type 0
IsCauseOf book entry fault = IsRefusalFor (λ key. binding_of key book) (topics_in book) entry fault

-- the book with an entry where its topic isn't bound yet
abbrev pub bound_with : Option Binding → Book → BookEntry → Book
bound_with None book e = book ++ e ∷ []
bound_with (Some kept) book e = book

-- the book after a topic is bound
abbrev pub after_bind : Book → ℕ → TopicKey → Binding → Book
after_bind book writer key b = bound_with (binding_of key book) book (Bind writer key b)

-- the book after versions are stored
abbrev pub after_store : Book → ℕ → TopicKey → List ℕ → Book
after_store book writer key upto =
    if raises key book upto then book ++ Store writer key upto ∷ [] else book
