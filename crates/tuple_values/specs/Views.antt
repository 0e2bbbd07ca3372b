-- The documents that the program's values stand for (own).
use Rattle.std.specs.Prelude.{List, map}
use Rattle.tuple_values.specs.Document.{ByteList, Datum, long, text, group, Doc, rows_of}
use Rattle.tuple_values.specs.declared.value.Value.{Value}
use Rattle.tuple_values.specs.declared.value.Value.TheVariants.{Long, Text, Group}
use Rattle.tuple_values.specs.declared.value.Field.{Field}

-- what a value is
abbrev pub datum_of : Value → Datum
datum_of (Long n) = long n
datum_of (Text bytes) = text bytes
datum_of (Group docs) = group (rows_of docs)

-- a field is its name with its value
abbrev pub pair_of : Field → ByteList × Datum
pair_of f = (f.name, datum_of f.value)

-- the document of a list of fields
abbrev pub doc_of : List Field → Doc
doc_of fields = map pair_of fields
