-- The size of a document (own), by which limits are counted.
use Rattle.std.specs.Prelude.{ℕ, ◌+◌, [], ◌∷◌, length}
use Rattle.tuple_values.specs.Document.{Datum, long, text, group, Doc}

-- 8 for a number, the bytes of a text; a group counts as an empty text
abbrev pub datum_bytes : Datum → ℕ
datum_bytes (long n) = 8
datum_bytes (text bytes) = length bytes
datum_bytes (group rows) = 0

-- for each field the bytes of its name, those of its value, and 8
abbrev pub doc_bytes : Doc → ℕ
doc_bytes [] = 0
doc_bytes (f ∷ doc) = length f.0 + datum_bytes f.1 + 8 + doc_bytes doc
