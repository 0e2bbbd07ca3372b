-- Classes of characters, and which of them share none.
use Rattle.std.proofs.Common.{◌≡◌, ℕ, ◌<◌, true, false, arith}
use Rattle.std.proofs.lemmas.Bool.Decides.{nat_tests}
use Rattle.expr_reader.specs.Letters.{is_blank, is_name_letter, begins_name, is_key_letter}
use Rattle.expr_reader.specs.Letters.{is_special}

-- a key letter is not special, no blank and ASCII
pub key_letter : (c : ℕ) → is_key_letter c ≡ true
    → (is_special c ≡ false) × (is_blank c ≡ false) × (c < 128)
key_letter c h = (grind (arith, nat_tests), grind (arith, nat_tests), grind (arith, nat_tests))

-- it is ASCII
pub key_ascii : (c : ℕ) → is_key_letter c ≡ true → c < 128
key_ascii c h = (key_letter c h).2

-- a name letter is a key letter
pub name_key : (c : ℕ) → is_name_letter c ≡ true → is_key_letter c ≡ true
name_key c h = grind (arith, nat_tests)

-- it is ASCII
pub name_ascii : (c : ℕ) → is_name_letter c ≡ true → c < 128
name_ascii c h = key_ascii c (name_key c h)

-- what begins a name is a letter of it
pub begins_letter : (c : ℕ) → begins_name c ≡ true → is_name_letter c ≡ true
begins_letter c h = grind (arith, nat_tests)

-- a blank is no name letter
pub blank_not_name : (c : ℕ) → is_blank c ≡ true → is_name_letter c ≡ false
blank_not_name c h = grind (arith, nat_tests)

-- what begins a name is no blank
pub name_not_blank : (c : ℕ) → begins_name c ≡ true → is_blank c ≡ false
name_not_blank c h = grind (arith, nat_tests)

-- a blank is not special
pub blank_not_special : (c : ℕ) → is_blank c ≡ true → is_special c ≡ false
blank_not_special c h = grind (arith, nat_tests)
