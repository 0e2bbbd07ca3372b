-- Whether two bindings agree, as a test (own).
use Rattle.std.specs.Prelude.{Bool, true, false, ◌&&◌, List, [], ◌∷◌, Option, Some, None, bytes_eq}
use Rattle.tuple_values.specs.Document.{ByteList}
use Rattle.topic_book.specs.declared.topic.Binding.{Binding}

-- whether the lists of names are the same
abbrev pub same_names : List ByteList → List ByteList → Bool
same_names [] [] = true
same_names [] (b ∷ bs) = false
same_names (a ∷ more) [] = false
same_names (a ∷ more) (b ∷ bs) = bytes_eq a b && same_names more bs

-- whether the destinations are the same
abbrev pub same_destination : Option ByteList → Option ByteList → Bool
same_destination None None = true
same_destination None (Some b) = false
same_destination (Some a) None = false
same_destination (Some a) (Some b) = bytes_eq a b

-- whether the bindings agree in all but the initial checkpoint
unfoldable pub is_alike : Binding → Binding → Bool
is_alike a b =
    bytes_eq a.src b.src && (bytes_eq a.q b.q
    && (same_names a.fields b.fields && same_destination a.dest b.dest))
