-- Kinds of bytes and letters in any case, as the code goes over them (own).
use Rattle.std.specs.Prelude.{ℕ, Bool, ◌==◌}
use Rattle.std.specs.Char.{to_ascii_lowercase}
use Rattle.sort_spec.specs.Grammar.{is_blank, is_field_byte, is_side_byte}
use Rattle.sort_spec.specs.declared.scan.Kind.{Kind}
use Rattle.sort_spec.specs.declared.scan.Kind.TheVariants.{Blank, Field, Side}

-- the test of a kind
abbrev pub is_of : Kind → ℕ → Bool
is_of Blank = is_blank
is_of Field = is_field_byte
is_of Side = is_side_byte

-- whether a byte is the letter, in any case
abbrev pub same_letter : ℕ → ℕ → Bool
same_letter b letter = to_ascii_lowercase b == letter
