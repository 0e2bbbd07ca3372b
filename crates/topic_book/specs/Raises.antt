-- Numbers that are raised, and the topics that a book's state keeps (own).
use Rattle.std.specs.Prelude.{ℕ, zero, suc, max, List, [], ◌∷◌, ◌++◌, Option, Some, None, option_to_list, option_map, Bool, false, nat_lt, ◌||◌, if◌then◌else◌}
use Rattle.topic_book.specs.Books.{same_key}
use Rattle.topic_book.specs.declared.topic.TopicKey.{TopicKey}
use Rattle.topic_book.specs.declared.topic.Binding.{Binding}
use Rattle.topic_book.specs.declared.topic.BookEntry.{BookEntry}
use Rattle.topic_book.specs.declared.topic.BookEntry.TheVariants.{Bind, Store}
use Rattle.topic_book.specs.declared.topics.Topic.{Topic}

-- the greater of the numbers at each place of the first list
abbrev pub raised : List ℕ → List ℕ → List ℕ
raised [] us = []
raised (n ∷ ns) [] = n ∷ ns
raised (n ∷ ns) (u ∷ us) = max n u ∷ raised ns us

-- the same at the first so many places
abbrev pub raised_upto : ℕ → List ℕ → List ℕ → List ℕ
raised_upto zero ns us = ns
raised_upto (suc count) [] us = []
raised_upto (suc count) (n ∷ ns) [] = n ∷ ns
raised_upto (suc count) (n ∷ ns) (u ∷ us) = max n u ∷ raised_upto count ns us

-- the topic of the key
abbrev pub topic_of : TopicKey → List Topic → Option Topic
topic_of key [] = None
topic_of key (t ∷ ts) = if same_key key t.key then Some t else topic_of key ts

-- its place, and the end where there is none
abbrev pub place_of : TopicKey → List Topic → ℕ
place_of key [] = 0
place_of key (t ∷ ts) = if same_key key t.key then 0 else suc (place_of key ts)

-- the topic up to greater versions
abbrev pub raised_topic : Topic → List ℕ → Topic
raised_topic t upto = record { key = t.key; binding = t.binding; upto = raised t.upto upto }

-- the topics with the one of the key raised
abbrev pub raised_in : TopicKey → List ℕ → List Topic → List Topic
raised_in key upto [] = []
raised_in key upto (t ∷ ts) =
    if same_key key t.key then raised_topic t upto ∷ ts else t ∷ raised_in key upto ts

-- the topic as it is bound
abbrev pub new_topic : TopicKey → Binding → Topic
new_topic key b = record { key = key; binding = b; upto = b.init }

-- the topics after an entry, for which this one was made ready
abbrev pub topics_with : List Topic → Option Topic → BookEntry → List Topic
topics_with ts ready (Bind by key b) = ts ++ option_to_list ready
topics_with ts ready (Store by key upto) = raised_in key upto ts

-- what the topic of the key is bound to
abbrev pub binding_in : TopicKey → List Topic → Option Binding
binding_in key ts = option_map (λ t. t.binding) (topic_of key ts)

-- whether one of the second numbers is above the first one at its place
abbrev pub exceeds : List ℕ → List ℕ → Bool
exceeds [] us = false
exceeds (n ∷ ns) [] = false
exceeds (n ∷ ns) (u ∷ us) = nat_lt n u || exceeds ns us
