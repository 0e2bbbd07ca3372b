-- The collections of a load, and the topic that feeds one of them from another (own).
use Rattle.std.specs.Prelude.{List, [], ◌∷◌, codes, Some}
use Rattle.tuple_values.specs.Document.{ByteList}
use Rattle.tuple_values.specs.declared.names.NameShards.{NameShards}
use Rattle.topic_book.specs.declared.topic.TopicKey.{TopicKey}
use Rattle.topic_book.specs.declared.topic.Binding.{Binding}

-- where the documents are written
abbrev pub src_name : ByteList
src_name = codes "src"

-- where the topic delivers
abbrev pub dest_name : ByteList
dest_name = codes "dest"

-- by which the topic's checkpoint is named
abbrev pub ck_name : ByteList
ck_name = codes "ck"

-- the collections, with their shards
abbrev pub load_names : List NameShards
load_names =
    record { name = src_name; shards = 4 } ∷ record { name = dest_name; shards = 4 }
    ∷ record { name = ck_name; shards = 1 } ∷ []

-- the query of the topic: amounts up to 499
abbrev pub load_query : ByteList
load_query = codes "a_i:[0 TO 499]"

-- the fields of what the topic gives
abbrev pub load_fields : List ByteList
load_fields = codes "id" ∷ codes "a_i" ∷ codes "rev_i" ∷ []

-- the topic
abbrev pub load_key : TopicKey
load_key = record { checkpoints = ck_name; id = codes "load" }

-- what the topic is bound to: from the first version on
abbrev pub load_binding : Binding
load_binding = record {
  src = src_name;
  q = load_query;
  fields = load_fields;
  dest = Some dest_name;
  init = 0 ∷ 0 ∷ 0 ∷ 0 ∷ [];
}
