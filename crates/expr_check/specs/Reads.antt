-- Which collections an expression reads (own).
use Rattle.std.specs.Prelude.{List, [], ◌∷◌, ◌++◌, Bool, Option, Some, None, if◌then◌else◌}
use Rattle.std.specs.List.{list_all}
use Rattle.tuple_values.specs.Document.{ByteList, is_named}
use Rattle.tuple_values.specs.declared.names.NameShards.{NameShards}
use Rattle.tuple_values.specs.Collections.{is_known}

-- the names with one more, where it isn't there
abbrev pub with_name : List ByteList → ByteList → List ByteList
with_name names word = if is_named word names then names else names ++ word ∷ []

-- the name, where there is no collection of it
abbrev pub unknown : ByteList → List NameShards → Option ByteList
unknown name names = if is_known name names then None else Some name

-- each of these collections is there
abbrev pub are_known : List ByteList → List NameShards → Bool
are_known collections names = list_all (λ name. is_known name names) collections
