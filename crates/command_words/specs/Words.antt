-- What a word NAME=SHARDS says, and a word of digits (own).
use Rattle.std.specs.Prelude.{ℕ, nat_le, nat_lt, [], ◌∷◌, length, Bool, false, not}
use Rattle.std.specs.Prelude.{◌&&◌, ◌||◌, ◌==◌, Option, Some, None, option_and_then}
use Rattle.std.specs.Prelude.{if◌then◌else◌}
use Rattle.std.specs.Char.{is_ascii_alphabetic, is_ascii_alphanumeric, is_ascii_digit}
use Rattle.std.specs.List.{list_all, position_or_len, before_first, after_first}
use Rattle.std.specs.Str.Parse.{digits_value}
use Rattle.tuple_values.specs.Document.{ByteList}
use Rattle.tuple_values.specs.declared.names.NameShards.{NameShards}

-- an ASCII letter or an underscore
abbrev pub is_first : ℕ → Bool
is_first b = is_ascii_alphabetic b || b == 95

-- an ASCII letter, a digit, an underscore, a hyphen or a full stop
abbrev pub is_later : ℕ → Bool
is_later b = is_ascii_alphanumeric b || b == 95 || b == 45 || b == 46

-- a first byte may begin a name
abbrev pub begins_well : ByteList → Bool
begins_well [] = false
begins_well (b ∷ bytes) = is_first b

-- a collection may be named so: 1 to 64 such bytes, the first a letter or an underscore
abbrev pub is_name : ByteList → Bool
is_name name = begins_well name && list_all is_later name && nat_le (length name) 64

-- the number, where it is from the least to the most
abbrev pub in_range : ℕ → ℕ → ℕ → Option ℕ
in_range least most n = if nat_le least n && nat_le n most then Some n else None

-- bytes are decimal digits, one at least
abbrev pub is_number : ByteList → Bool
is_number bytes = not (length bytes == 0) && list_all is_ascii_digit bytes

-- the number that bytes write in decimal digits, where it is one from the least to the most
abbrev pub number_of : ℕ → ℕ → ByteList → Option ℕ
number_of least most bytes =
    if is_number bytes then in_range least most (digits_value 10 bytes) else None

-- the number of shards that bytes write, where a collection may have so many
abbrev pub shards_of : ByteList → Option ℕ
shards_of bytes = number_of 1 8 bytes

-- the collection of this name with so many shards
abbrev pub collection : ByteList → ℕ → NameShards
collection name n = record { name = name; shards = n }

-- the same, where it may be named so
abbrev pub named : ByteList → ℕ → Option NameShards
named name n = if is_name name then Some (collection name n) else None

-- an equals sign
abbrev pub is_equals : ℕ → Bool
is_equals b = b == 61

-- the collection that a word names, by what stands before its first equals sign and after it
abbrev pub name_of : ByteList → Option NameShards
name_of word =
    if nat_lt (position_or_len is_equals word) (length word)
    then option_and_then (named (before_first is_equals word))
    (shards_of (after_first is_equals word))
    else None
