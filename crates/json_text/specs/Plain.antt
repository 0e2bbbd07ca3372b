-- Texts that a JSON string holds as they are (RFC 8259, section 7).
use Rattle.std.specs.Prelude.{ℕ, ◌++◌, Bool, not, ◌&&◌, ◌==◌, nat_le, codes}
use Rattle.tuple_values.specs.Document.{ByteList}

-- whether a byte is neither a control byte nor a quotation mark nor a backslash
abbrev pub is_plain_byte : ℕ → Bool
is_plain_byte byte = nat_le 32 byte && not (byte == 34) && not (byte == 92)

-- the bytes between quotation marks
abbrev pub plain_text : ByteList → ByteList
plain_text bytes = codes "\"" ++ bytes ++ codes "\""
