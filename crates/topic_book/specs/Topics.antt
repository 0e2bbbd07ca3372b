-- When the topics that a book's state keeps are those of its entries (own).
use Rattle.std.specs.Prelude.{ℕ, ◌+◌, ◌≡◌, ◌<◌, ◌≤◌, ◌^◌, List, [], length, option_map, vec_len, vec_capacity}
use Rattle.topic_book.specs.Books.{Book, binding_of, checkpoints_at, topics_in}
use Rattle.topic_book.specs.Fitness.{IsOrdered}
use Rattle.topic_book.specs.Raises.{topic_of}
use Rattle.topic_book.specs.States.{Kept}
use Rattle.topic_book.specs.declared.topic.TopicKey.{TopicKey}
use Rattle.topic_book.specs.declared.topic.Binding.{Binding}
use Rattle.topic_book.specs.declared.topics.Topic.{Topic}
use Rattle.topic_book.specs.declared.book.BookState.TheInside.{Inside}

-- what a topic is bound to, and up to where it was delivered
abbrev pub standing : Topic → Binding × List ℕ
standing t = (t.binding, t.upto)

-- each topic stands as the book has it
abbrev pub AreTopics : List Topic → Book → Type 0
AreTopics ts book =
    (key : TopicKey) → option_map standing (topic_of key ts)
    ≡ option_map (λ b. (b, checkpoints_at key book b)) (binding_of key book)

-- the book, the room and what was made ready
abbrev pub kept_in : Inside → Kept
kept_in s = record { entries = s.entries.items; room = s.room; ready = s.ready }

-- the topics are those of the entries, and there is room for as many more as is said
pub record IsState (s : Inside) : Type 0 where
  pub ordered : IsOrdered [] s.entries.items
  pub topics : AreTopics s.topics.items s.entries.items
  pub counted : length s.topics.items ≡ topics_in s.entries.items
  pub small : length s.entries.items + s.room < 2 ^ 63
  pub room_entries : vec_len s.entries + s.room ≤ vec_capacity s.entries
  pub room_topics : vec_len s.topics + s.room ≤ vec_capacity s.topics
