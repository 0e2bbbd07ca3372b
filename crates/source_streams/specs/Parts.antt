-- Which tuples belong to one part of several (own).
use Rattle.std.specs.Prelude.{ℕ, ◌%◌, ◌==◌, Bool, List, [], Option, Some, None, filter}
use Rattle.tuple_values.specs.Document.{ByteList, Doc}
use Rattle.tuple_values.specs.Keys.{key_text, hash_of}

-- whether a tuple is of the part: the hash of its key says so
abbrev pub is_of_part : (index parts : ℕ) → List ByteList → Doc → Bool
is_of_part index parts keys doc = (hash_of (key_text doc keys) % parts) == index

-- the tuples of a part
abbrev pub part_of : (index parts : ℕ) → List ByteList → List Doc → List Doc
part_of index parts keys docs = filter (is_of_part index parts keys) docs

-- the partition keys, and none where they aren't given
abbrev pub keys_of : Option (List ByteList) → List ByteList
keys_of None = []
keys_of (Some keys) = keys
