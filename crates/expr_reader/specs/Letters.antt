-- Classes of characters and bytes (own; bytes past ASCII by RFC 3629, section 4).
use Rattle.std.specs.Prelude.{ℕ, List, [], ◌∷◌, Bool, false, ◌||◌, ◌&&◌, ◌==◌}
use Rattle.std.specs.Prelude.{if◌then◌else◌, slice_index}
use Rattle.std.specs.List.{list_all}
use Rattle.std.specs.Int.{is_in_range}
use Rattle.std.specs.Char.{is_ascii_alphanumeric, is_ascii_alphabetic}

-- space, tab, LF and CR
abbrev pub is_blank : ℕ → Bool
is_blank c = (c == 32) || (c == 9) || (c == 10) || (c == 13)

-- an ASCII letter, a digit or `_`
abbrev pub is_name_letter : ℕ → Bool
is_name_letter c = is_ascii_alphanumeric c || (c == 95)

-- a name letter that is no digit
abbrev pub begins_name : ℕ → Bool
begins_name c = is_ascii_alphabetic c || (c == 95)

-- a name letter, a dot or a dash
abbrev pub is_key_letter : ℕ → Bool
is_key_letter c = is_ascii_alphanumeric c || (c == 95) || (c == 46) || (c == 45)

-- , ( ) = and the quote
abbrev pub is_special : ℕ → Bool
is_special c = (c == 44) || (c == 40) || (c == 41) || (c == 61) || (c == 34)

-- one or more name letters, the first no digit
abbrev pub is_name : List ℕ → Bool
is_name [] = false
is_name (c ∷ cs) = begins_name c && list_all is_name_letter cs

-- a byte that begins a character past ASCII
abbrev pub is_lead : ℕ → Bool
is_lead x = is_in_range 0xC2 0xF4 x

-- the least byte that may stand second behind a first one
abbrev pub second_min : ℕ → ℕ
second_min x = if x == 0xE0 then 0xA0 else (if x == 0xF0 then 0x90 else 0x80)

-- the greatest byte that may
abbrev pub second_max : ℕ → ℕ
second_max x = if x == 0xED then 0x9F else (if x == 0xF4 then 0x8F else 0xBF)

-- a byte that may stand second behind a first one
abbrev pub is_second : ℕ → ℕ → Bool
is_second x y = is_in_range (second_min x) (second_max x) y

-- a byte that goes on with a character
abbrev pub is_later : ℕ → Bool
is_later x = is_in_range 0x80 0xBF x

-- how many bytes begin a character, of bytes that begin with no whole one; past the end stands 0
abbrev pub begun_bytes : List ℕ → ℕ
begun_bytes bs =
    if is_lead (slice_index bs 0)
    then (if is_second (slice_index bs 0) (slice_index bs 1)
    then (if is_later (slice_index bs 2) then 3 else 2)
    else 1)
    else 0
