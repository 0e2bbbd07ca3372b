-- The keys by which a table finds the right documents that may equal a left one (own).
use Rattle.std.specs.Prelude.{List, map}
use Rattle.tuple_values.specs.Document.{ByteList, Doc}
use Rattle.tuple_values.specs.Keys.{key_text}
use Rattle.sort_spec.specs.declared.pair.OnPair.{OnPair}

-- the key of a left document: that of the left names of the pairs
abbrev pub left_key : List OnPair → Doc → ByteList
left_key on left = key_text left (map (λ pair. pair.left) on)

-- the key of a right document: that of the right names
abbrev pub right_key : List OnPair → Doc → ByteList
right_key on right = key_text right (map (λ pair. pair.right) on)
