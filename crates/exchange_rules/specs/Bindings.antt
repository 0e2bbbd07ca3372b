-- The courses of the calls on topics: what a topic's state is, a Bind and a Store (own; the
-- requests are those of the Solr Reference Guide, "Stream Source Reference", topic).
use Rattle.std.specs.Prelude.{ℕ, nat_lt, List, [], ◌∷◌, ◌++◌, get_or, Option, Some, None, unwrap_or, Result, Ok, Err, if◌then◌else◌}
use Rattle.tuple_values.specs.declared.names.NameShards.{NameShards}
use Rattle.topic_book.specs.Alike.{is_alike}
use Rattle.topic_book.specs.Books.{Book, binding_of, checkpoints, raises, topics_in}
use Rattle.topic_book.specs.Cells.{cells_in}
use Rattle.topic_book.specs.declared.topic.TopicKey.{TopicKey}
use Rattle.topic_book.specs.declared.topic.Binding.{Binding}
use Rattle.topic_book.specs.declared.topic.BookEntry.TheVariants.{Bind}
use Rattle.exchange_rules.specs.Cells.{bind, store, book_in}
use Rattle.exchange_rules.specs.Courses.{Course, ends, looks, makes}
use Rattle.exchange_rules.specs.Following.{Writer}
use Rattle.exchange_rules.specs.Rows.{Layout}
use Rattle.exchange_rules.specs.declared.fault.SiteFault.{SiteFault}
use Rattle.exchange_rules.specs.declared.fault.SiteFault.TheVariants.{TopicBound, BookFull}

-- the cell of the book is the last one
abbrev pub book_cell : List NameShards → ℕ
book_cell names = cells_in names

-- what the writer has seen of the book
abbrev pub book_seen : Layout → Writer → Book
book_seen l w = book_in (get_or w.seen (book_cell l.names) [])

-- the checkpoint of the topic in this book
abbrev pub checkpoint_in : TopicKey → Book → List ℕ
checkpoint_in key book = unwrap_or (checkpoints key book) []

-- the checkpoint after the topic is bound; who binds it doesn't matter
abbrev pub bound_checkpoint : TopicKey → Book → Binding → List ℕ
bound_checkpoint key book b = checkpoint_in key (book ++ Bind 0 key b ∷ [])

-- a Bind of a topic that isn't bound in this book, where fewer than 1,000 are
abbrev pub bind_new : List NameShards → TopicKey → Binding → Book
    → Course (Result (List ℕ) SiteFault)
bind_new names key b book =
    if nat_lt (topics_in book) 1000
    then makes (book_cell names) (bind key b ∷ []) (ends (Ok (bound_checkpoint key book b)))
    else ends (Err (BookFull (topics_in book)))

-- a topic that is bound to these values is bound alike, or stays bound to them
abbrev pub bind_again : TopicKey → Binding → Book → Binding → Course (Result (List ℕ) SiteFault)
bind_again key b book kept =
    if is_alike kept b then ends (Ok (checkpoint_in key book)) else ends (Err (TopicBound kept))

-- what is done of a Bind by what the topic is bound to
abbrev pub bind_seen : List NameShards → TopicKey → Binding → Book → Option Binding
    → Course (Result (List ℕ) SiteFault)
bind_seen names key b book None = bind_new names key b book
bind_seen names key b book (Some kept) = bind_again key b book kept

-- a topic is bound: one look at the book, and a Bind where it isn't bound; the answer is its
-- checkpoint afterwards
abbrev pub bind_course : List NameShards → TopicKey → Binding → Course (Result (List ℕ) SiteFault)
bind_course names key b =
    looks (book_cell names) (λ log.
    bind_seen names key b (book_in log) (binding_of key (book_in log)))

-- how far a topic was delivered: one look at the book
abbrev pub topic_state_course : List NameShards → TopicKey → Course (Option (List ℕ))
topic_state_course names key =
    looks (book_cell names) (λ log. ends (checkpoints key (book_in log)))

-- a Store where it raises the topic's checkpoint somewhere
abbrev pub store_seen : {E : Type 0} → List NameShards → TopicKey → List ℕ → Book
    → Course (Result (Unit {0}) E)
store_seen names key upto book =
    if raises key book upto
    then makes (book_cell names) (store key upto ∷ []) (ends (Ok tt))
    else ends (Ok tt)

-- a checkpoint is stored: one look at the book, and a Store where it raises something
abbrev pub store_course : {E : Type 0} → List NameShards → TopicKey → List ℕ
    → Course (Result (Unit {0}) E)
store_course names key upto =
    looks (book_cell names) (λ log. store_seen names key upto (book_in log))
