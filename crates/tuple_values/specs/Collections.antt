-- The collections of a server by their names, each with its number of shards (own).
use Rattle.std.specs.Prelude.{ℕ, List, [], ◌∷◌, Option, Some, None, Bool, false, ◌||◌, bytes_eq}
use Rattle.std.specs.Prelude.{if◌then◌else◌}
use Rattle.tuple_values.specs.Document.{ByteList}
use Rattle.tuple_values.specs.declared.names.NameShards.{NameShards}

-- whether there is a collection of this name
abbrev pub is_known : ByteList → List NameShards → Bool
is_known name [] = false
is_known name (n ∷ names) = bytes_eq n.name name || is_known name names

-- how many shards the collection has, and 0 where there is none of this name
unfoldable pub shards_of : List NameShards → ByteList → ℕ
shards_of [] collection = 0
shards_of (n ∷ names) collection =
    if bytes_eq n.name collection then n.shards else shards_of names collection

-- how many shards a collection has that may be there
abbrev pub shards_in : Option NameShards → ℕ
shards_in None = 0
shards_in (Some n) = n.shards
