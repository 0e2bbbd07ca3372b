-- The bytes of replies: compact JSON (RFC 8259), strings and numbers as serde_json writes them,
-- members in an order of its own (own rule).
use Rattle.std.specs.Prelude.{ℕ, List, [], ◌++◌, Bool, true, false, codes, flat_map, Option, Some}
use Rattle.std.specs.Prelude.{None}
use Rattle.tuple_values.specs.Document.{ByteList, Datum, long, text, group, Rows, no_rows, row}
use Rattle.tuple_values.specs.Document.{Fields, no_fields, field, fields_of, Doc}
use Rattle.serde_json.specs.Data.{number, unsigned, string}
use Rattle.serde_json.specs.Find.{of_integer}
use Rattle.serde_json.specs.Written.{compact_text, comma_if}

-- a text as a JSON string
abbrev pub string_text : ByteList → ByteList
string_text bytes = compact_text (string bytes)

-- a count as a JSON number
abbrev pub count_text : ℕ → ByteList
count_text n = compact_text (number (unsigned n))

abbrev mutual
  -- a number, a string, or an array of the tuples of a group
  pub datum_text : Datum → ByteList
  datum_text (long n) = compact_text (number (of_integer n))
  datum_text (text bytes) = string_text bytes
  datum_text (group rows) = codes "[" ++ rows_text false rows

  -- the tuples of a group, a comma before each that stands later, and the closing bracket
  pub rows_text : Bool → Rows → ByteList
  rows_text later no_rows = codes "]"
  rows_text later (row fields rows) =
      comma_if later ++ (codes "{" ++ (fields_text false fields ++ rows_text true rows))

  -- the fields of a tuple, a comma before each that stands later, and the closing brace
  pub fields_text : Bool → Fields → ByteList
  fields_text later no_fields = codes "}"
  fields_text later (field name value fields) =
      comma_if later
      ++ (string_text name ++ (codes ":" ++ (datum_text value ++ fields_text true fields)))

-- a tuple is an object with its fields in the order of their names
abbrev pub tuple_text : Doc → ByteList
tuple_text doc = codes "{" ++ fields_text false (fields_of doc)

-- the texts of tuples, a comma behind each
abbrev pub docs_text : List Doc → ByteList
docs_text docs = flat_map (λ doc. tuple_text doc ++ codes ",") docs

-- the member that tells a fault, where there is one
abbrev pub exception_text : Option ByteList → ByteList
exception_text None = []
exception_text (Some exception) = codes "\"EXCEPTION\":" ++ string_text exception ++ codes ","

-- the end tuple: the fault, where there is one, and the time in milliseconds
abbrev pub end_text : Option ByteList → ℕ → ByteList
end_text exception millis =
    codes "{\"EOF\":true," ++ exception_text exception
    ++ codes "\"RESPONSE_TIME\":" ++ count_text millis ++ codes "}"

-- a result set: the tuples, and then the end tuple
abbrev pub body : List Doc → Option ByteList → ℕ → ByteList
body docs exception millis =
    codes "{\"result-set\":{\"docs\":[" ++ docs_text docs ++ end_text exception millis
    ++ codes "]}}"

-- the head of an answer to an update: its status and the time in milliseconds
abbrev pub header_text : ℕ → ℕ → ByteList
header_text status millis =
    codes "{\"responseHeader\":{\"status\":" ++ count_text status
    ++ codes ",\"QTime\":" ++ count_text millis ++ codes "}"

-- the answer to an update that was carried out
abbrev pub update_body : ℕ → ByteList
update_body millis = header_text 0 millis ++ codes "}"

-- the answer to an update that was refused: its code, its text and the time in milliseconds
abbrev pub error_body : ℕ → ByteList → ℕ → ByteList
error_body code msg millis =
    header_text code millis ++ codes ",\"error\":{\"msg\":" ++ string_text msg
    ++ codes ",\"code\":" ++ count_text code ++ codes "}}"
