-- Words and quoted texts (Lucene's classic query syntax; a word behind a minus is own).
use Rattle.std.specs.Prelude.{◌≡◌, ℕ, List, [], ◌∷◌, ◌++◌, Bool, true, false, ◌||◌, ◌==◌}
use Rattle.tuple_values.specs.Document.{ByteList}
use Rattle.query_syntax.specs.Letters.{is_sign, is_digit, is_word_byte, Letter, plain, escaped}
use Rattle.query_syntax.specs.Letters.{letter_byte, AreLetters, letters_print, letters_text}
use Rattle.query_syntax.specs.Letters.{has_escape, is_operator}

-- there is a first letter, and it is no `+` or `-`, unless it is escaped
abbrev pub BeginsWord : List Letter → Type 0
BeginsWord [] = ⊥
BeginsWord (plain b ∷ letters) = is_sign b ≡ false
BeginsWord (escaped b ∷ letters) = Unit {0}

-- there is a first letter, and it is a digit
abbrev pub BeginsNumber : List Letter → Type 0
BeginsNumber [] = ⊥
BeginsNumber (letter ∷ letters) = is_digit (letter_byte letter) ≡ true

-- a word: it is no operator
pub record IsWord (letters : List Letter) : Type 0 where
  pub are_letters : AreLetters is_word_byte letters
  pub begins : BeginsWord letters
  pub no_operator : is_operator (has_escape letters) (letters_text letters) ≡ false

-- a word that may stand behind a minus
pub record IsNumberWord (letters : List Letter) : Type 0 where
  pub are_letters : AreLetters is_word_byte letters
  pub begins : BeginsNumber letters

-- a byte that goes on with a word: one of its bytes, or the backslash before one
abbrev pub goes_on_word : ℕ → Bool
goes_on_word b = b == 92 || is_word_byte b

-- the bytes behind a word don't go on with it
abbrev pub NoLetter : ByteList → Type 0
NoLetter [] = Unit {0}
NoLetter (b ∷ bytes) = goes_on_word b ≡ false

-- the bytes of a quoted text
abbrev pub quoted_print : List Letter → ByteList
quoted_print letters = 34 ∷ (letters_print letters ++ 34 ∷ [])
