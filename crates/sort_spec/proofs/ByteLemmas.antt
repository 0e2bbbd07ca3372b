-- Blanks, commas and the other bytes of names, and which of them are ASCII.
use Rattle.std.proofs.Common.{◌≡◌, ℕ, ◌<◌, Bool, true, false, ◌==◌, arith, ap, sym, ◌∙◌}
use Rattle.std.specs.Char.{to_ascii_lowercase}
use Rattle.std.proofs.lemmas.Bool.Decides.{nat_tests}
use Rattle.sort_spec.specs.Grammar.{is_blank, is_field_byte, is_side_byte}

-- what ends a run of the kind, or is a blank, is ASCII
pub blank_ascii : (b : ℕ) → is_blank b ≡ true → b < 128
blank_ascii b is = grind (arith, nat_tests)

-- so is what ends a field
pub not_field_ascii : (b : ℕ) → is_field_byte b ≡ false → b < 128
not_field_ascii b is = grind (arith, nat_tests)

-- and what ends a name of a pair
pub not_side_ascii : (b : ℕ) → is_side_byte b ≡ false → b < 128
not_side_ascii b is = grind (arith, nat_tests)

-- a blank is none of the others
pub blank_no_field_byte : (b : ℕ) → is_blank b ≡ true → is_field_byte b ≡ false
blank_no_field_byte b is = grind (arith, nat_tests)

-- nor of a name of a pair
pub blank_no_side_byte : (b : ℕ) → is_blank b ≡ true → is_side_byte b ≡ false
blank_no_side_byte b is = grind (arith, nat_tests)

-- a byte of a field is no blank
pub field_byte_no_blank : (b : ℕ) → is_field_byte b ≡ true → is_blank b ≡ false
field_byte_no_blank b is = grind (arith, nat_tests)

-- nor is one of a name of a pair
pub side_byte_no_blank : (b : ℕ) → is_side_byte b ≡ true → is_blank b ≡ false
side_byte_no_blank b is = grind (arith, nat_tests)

-- nor a comma
pub blank_no_comma : (b : ℕ) → is_blank b ≡ true → (b == 44) ≡ false
blank_no_comma b is = grind (arith, nat_tests)

-- a byte of a field is none either
pub field_byte_no_comma : (b : ℕ) → is_field_byte b ≡ true → (b == 44) ≡ false
field_byte_no_comma b is = grind (arith, nat_tests)

-- nor is one of a name of a pair
pub side_byte_no_comma : (b : ℕ) → is_side_byte b ≡ true → (b == 44) ≡ false
side_byte_no_comma b is = grind (arith, nat_tests)

-- a blank has no other case
pub blank_lowercase : (b : ℕ) → is_blank b ≡ true → to_ascii_lowercase b ≡ b
blank_lowercase b is = grind (arith, nat_tests)

-- so a letter of a word is no blank
pub letter_no_blank_by : (b letter : ℕ) (test : Bool) → is_blank b ≡ test
    → to_ascii_lowercase b ≡ letter → is_blank letter ≡ false → is_blank b ≡ false
letter_no_blank_by b letter false is same none = is
letter_no_blank_by b letter true is same none =
    let one : b ≡ letter = sym (blank_lowercase b is) ∙ same in
    ap is_blank one ∙ none

-- nor is it an equals sign
pub blank_no_equals : (b : ℕ) → is_blank b ≡ true → (b == 61) ≡ false
blank_no_equals b is = grind (arith, nat_tests)
