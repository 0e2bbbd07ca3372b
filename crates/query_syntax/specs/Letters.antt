-- Letters of words, of bounds and of quoted texts (Lucene's classic query syntax). A character past
-- ASCII is so many bytes, each of which may stand in all three.
use Rattle.std.specs.Prelude.{◌≡◌, ℕ, List, [], ◌∷◌, Bool, true, false, not, ◌||◌, ◌&&◌, ◌==◌}
use Rattle.std.specs.Prelude.{bytes_eq, codes, map}
use Rattle.std.specs.List.{AllByRecursion, flat_map, list_any}
use Rattle.std.specs.Int.{is_in_range}
use Rattle.tuple_values.specs.Document.{ByteList}

-- space, tab, line feed, carriage return
abbrev pub is_blank : ℕ → Bool
is_blank b = b == 32 || b == 9 || b == 10 || b == 13

-- blanks alone, perhaps none
abbrev pub AreBlank : ByteList → Type 0
AreBlank = AllByRecursion (λ b. is_blank b ≡ true)

-- blanks alone, at least one
abbrev pub AreSomeBlanks : ByteList → Type 0
AreSomeBlanks [] = ⊥
AreSomeBlanks (b ∷ bytes) = (is_blank b ≡ true) × AreBlank bytes

-- ! ( ) : ^ [ ] " { } ~ * ? \ /
unfoldable pub is_special : ℕ → Bool
is_special b =
    b == 33 || b == 40 || b == 41 || b == 58 || b == 94 || b == 91 || b == 93 || b == 34
    || b == 123 || b == 125 || b == 126 || b == 42 || b == 63 || b == 92 || b == 47

-- + or -, with which no word begins
abbrev pub is_sign : ℕ → Bool
is_sign b = b == 43 || b == 45

-- 0 to 9
abbrev pub is_digit : ℕ → Bool
is_digit b = is_in_range 48 57 b

-- a byte of a word
abbrev pub is_word_byte : ℕ → Bool
is_word_byte b = not (is_blank b || is_special b)

-- a byte of a bound without quotes: any but blanks ] } " \
abbrev pub is_bound_byte : ℕ → Bool
is_bound_byte b = not (is_blank b || b == 93 || b == 125 || b == 34 || b == 92)

-- a byte of a quoted text: any but " \
abbrev pub is_quoted_byte : ℕ → Bool
is_quoted_byte b = not (b == 34 || b == 92)

-- a letter stands for itself, or is any byte but `u` behind a backslash, which it stands for
pub data Letter : Type 0 where
  plain : ℕ → Letter
  escaped : ℕ → Letter

-- the bytes of a letter
abbrev pub letter_print : Letter → ByteList
letter_print (plain b) = b ∷ []
letter_print (escaped b) = 92 ∷ b ∷ []

-- the byte that it stands for
abbrev pub letter_byte : Letter → ℕ
letter_byte (plain b) = b
letter_byte (escaped b) = b

-- it stands behind a backslash
abbrev pub is_escaped : Letter → Bool
is_escaped (plain b) = false
is_escaped (escaped b) = true

-- a letter whose byte, unless it is escaped, passes a test
abbrev pub IsLetter : (ℕ → Bool) → Letter → Type 0
IsLetter passes (plain b) = passes b ≡ true
IsLetter passes (escaped b) = (b == 117) ≡ false

-- letters whose bytes, unless they are escaped, pass a test
abbrev pub AreLetters : (ℕ → Bool) → List Letter → Type 0
AreLetters passes = AllByRecursion (IsLetter passes)

-- the bytes of letters
abbrev pub letters_print : List Letter → ByteList
letters_print = flat_map letter_print

-- the text that they stand for
abbrev pub letters_text : List Letter → ByteList
letters_text = map letter_byte

-- some letter is escaped
abbrev pub has_escape : List Letter → Bool
has_escape = list_any is_escaped

-- a text without escapes is this one
abbrev pub is_just : ByteList → Bool → ByteList → Bool
is_just wanted escapes text = not escapes && bytes_eq text wanted

-- AND OR NOT && ||, without escapes
unfoldable pub is_operator : Bool → ByteList → Bool
is_operator escapes text =
    is_just (codes "AND") escapes text || is_just (codes "OR") escapes text
    || is_just (codes "NOT") escapes text || is_just (codes "&&") escapes text
    || is_just (codes "||") escapes text
