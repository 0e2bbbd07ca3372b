-- What is told of a topic that stays bound as it is (own).
use Rattle.std.specs.Prelude.{◌++◌, List, Option, Some, None, codes}
use Rattle.std.specs.List.{join_by}
use Rattle.tuple_values.specs.Document.{ByteList}
use Rattle.topic_book.specs.declared.topic.Binding.{Binding}

-- names with a comma between them
abbrev pub names_text : List ByteList → ByteList
names_text names = join_by (λ name. name) (codes ",") names

-- a destination, and `-` where there is none
abbrev pub dest_text : Option ByteList → ByteList
dest_text None = codes "-"
dest_text (Some dest) = dest

-- the source, the query, the fields and the destination of a topic
abbrev pub kept_text : Binding → ByteList
kept_text b =
    codes "src=" ++ b.src ++ codes " q=" ++ b.q ++ codes " fl=" ++ names_text b.fields
    ++ codes " dest=" ++ dest_text b.dest
