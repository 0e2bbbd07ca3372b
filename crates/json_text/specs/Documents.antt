-- What document a JSON value is, over serde_json's own reading of bytes (own rule).
use Rattle.std.specs.Prelude.{ℕ, List, [], ◌∷◌, length, Bool, false, not, ◌&&◌, ◌||◌, nat_lt}
use Rattle.std.specs.Prelude.{bytes_eq, codes, if◌then◌else◌, Option, Some, None, is_some, is_none}
use Rattle.std.specs.Prelude.{option_map, option_and_then, find, filter_map, Result, Ok, Err}
use Rattle.std.specs.Option.{option_map_or}
use Rattle.serde_json.specs.Data.{Data, null, boolean, number, string, array, object, Members}
use Rattle.serde_json.specs.Data.{no_members, member}
use Rattle.serde_json.specs.Find.{as_i64, as_null}
use Rattle.tuple_values.specs.Document.{ByteList, Datum, long, text, group, Doc, value_at, over}
use Rattle.tuple_values.specs.Kinds.{coerced}
use Rattle.tuple_values.specs.Sizes.{doc_bytes}
use Rattle.json_text.specs.declared.fault.JsonFault.{JsonFault}
use Rattle.json_text.specs.declared.fault.JsonFault.TheVariants.{NotADocument, NotWhole, NoId}
use Rattle.json_text.specs.declared.fault.JsonFault.TheVariants.{DocTooLarge}

-- a member of an object: its name with its value
abbrev pub Member : Type 0
Member = ByteList × Data

-- the members of an object: each name once, in the order of bytes
abbrev pub member_list : Members → List Member
member_list no_members = []
member_list (member name value members) = (name, value) ∷ member_list members

-- a name that the server alone sets
abbrev pub is_reserved : ByteList → Bool
is_reserved name =
    bytes_eq name (codes "_version_") || bytes_eq name (codes "_src_s")
    || bytes_eq name (codes "_src_version_l")

-- a member that is to be a field: its name isn't reserved, and its value isn't null
abbrev pub is_field : Member → Bool
is_field m = not (is_reserved m.0) && not (is_some (as_null m.1))

-- the value that JSON gives: a text, a whole number of 64 bits, the word of a truth value
abbrev pub plain_value : Data → Option Datum
plain_value null = None
plain_value (boolean b) = Some (text (if b then codes "true" else codes "false"))
plain_value (number n) = option_map long (as_i64 n)
plain_value (string bytes) = Some (text bytes)
plain_value (array items) = None
plain_value (object fields) = None

-- the value of a member in the kind of its name, where there is one
abbrev pub field_value : Member → Option Datum
field_value m = option_and_then (coerced m.0) (plain_value m.1)

-- a member that is to be a field and has no value for it
abbrev pub is_unfit : Member → Bool
is_unfit m = is_field m && is_none (field_value m)

-- the field that a member becomes
abbrev pub field_of : Member → Option (ByteList × Datum)
field_of m = if is_field m then option_map (λ value. (m.0, value)) (field_value m) else None

-- the document of an object's members
abbrev pub fields_in : List Member → Doc
fields_in members = over [] (filter_map field_of members)

-- whether the value can name a document: a text with a byte or more
abbrev pub is_id : Option Datum → Bool
is_id None = false
is_id (Some (long n)) = false
is_id (Some (text bytes)) = nat_lt 0 (length bytes)
is_id (Some (group rows)) = false

-- the greatest size of a document, in counted bytes
abbrev pub largest_document : ℕ
largest_document = 1048576

-- the document, if it has an id and a size that is allowed, at its place in its list
abbrev pub allowed : ℕ → Doc → Result Doc JsonFault
allowed at doc =
    if is_id (value_at (codes "id") doc)
    then (if nat_lt largest_document (doc_bytes doc) then Err (DocTooLarge at) else Ok doc)
    else Err (NoId at)

-- the document of an object, or its first fault: a member without a value, and then the others
abbrev pub document_of : ℕ → Data → Result Doc JsonFault
document_of at null = Err (NotADocument at)
document_of at (boolean b) = Err (NotADocument at)
document_of at (number n) = Err (NotADocument at)
document_of at (string bytes) = Err (NotADocument at)
document_of at (array items) = Err (NotADocument at)
document_of at (object members) =
    option_map_or (λ m. Err (NotWhole at m.0)) (find is_unfit (member_list members))
    (allowed at (fields_in (member_list members)))
