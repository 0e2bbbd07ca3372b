-- Literals and numbers that words are read as (own).
use Rattle.std.specs.Prelude.{ℕ, ℤ, pos, negsuc, Bool, true, false, not, ◌&&◌, nat_le, Option, Some, None}
use Rattle.std.specs.Prelude.{bytes_eq, codes, if◌then◌else◌}
use Rattle.tuple_values.specs.Document.{ByteList}
use Rattle.tuple_values.specs.Whole.{whole_of}
use Rattle.tuple_values.specs.declared.value.Value.{Value}
use Rattle.tuple_values.specs.declared.value.Value.TheVariants as value
use Rattle.expr_reader.specs.declared.call.Word.{Word}

-- the number, where there is one, else the text
abbrev pub number_or : Option ℤ → ByteList → Value
number_or None text = value.Text text
number_or (Some n) text = value.Long n

-- a literal is a number where it is bare and whole, else a text
abbrev pub literal : ByteList → Bool → Value
literal text quoted = if quoted then value.Text text else number_or (whole_of text) text

-- the literal that a word is, but none for a bare `null`
abbrev pub literal_or_null : Word → Option Value
literal_or_null w =
    if not w.quoted && bytes_eq w.text (codes "null") then None else Some (literal w.text w.quoted)

-- the number, where it is within the limits
abbrev pub within : ℕ → ℕ → Option ℤ → Option ℕ
within low high None = None
within low high (Some (pos n)) = if nat_le low n && nat_le n high then Some n else None
within low high (Some (negsuc n)) = None

-- what `true` or `false` says; none for another text
abbrev pub flag_of : ByteList → Option Bool
flag_of text =
    if bytes_eq text (codes "true") then Some true
    else (if bytes_eq text (codes "false") then Some false else None)
