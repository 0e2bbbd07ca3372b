-- The kind of value that a name holds, and a value in the kind of its name (own).
use Rattle.std.specs.Prelude.{Bool, ◌||◌, nat_eq, Option, Some, None, option_map, bytes_eq, codes, if◌then◌else◌}
use Rattle.std.specs.Fmt.{signed_decimal}
use Rattle.std.specs.List.{ends_with}
use Rattle.tuple_values.specs.Document.{ByteList, Datum, long, text, group}
use Rattle.tuple_values.specs.Whole.{whole_of}

-- `id` and the names that end in `_s` hold texts
abbrev pub is_text_name : ByteList → Bool
is_text_name name = bytes_eq name (codes "id") || ends_with nat_eq name (codes "_s")

-- `_version_` and the names that end in `_i` or `_l` hold numbers
abbrev pub is_number_name : ByteList → Bool
is_number_name name =
    bytes_eq name (codes "_version_")
    || ends_with nat_eq name (codes "_i") || ends_with nat_eq name (codes "_l")

-- a number under a text name becomes its decimal text, a whole text under a number name its number
abbrev pub coerced : ByteList → Datum → Option Datum
coerced name (long n) = Some (if is_text_name name then text (signed_decimal n) else long n)
coerced name (text bytes) =
    if is_number_name name then option_map long (whole_of bytes) else Some (text bytes)
coerced name (group rows) = None
