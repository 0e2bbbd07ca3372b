-- How a test is laid out, and what it says (Lucene's classic query syntax; a word behind a minus
-- is own).
use Rattle.std.specs.Prelude.{◌≡◌, List, [], ◌∷◌, ◌++◌, false, ◌==◌}
use Rattle.tuple_values.specs.Document.{ByteList}
use Rattle.query_syntax.specs.Letters.{is_quoted_byte, Letter, AreLetters}
use Rattle.query_syntax.specs.Letters.{letters_print, letters_text}
use Rattle.query_syntax.specs.Words.{IsWord, IsNumberWord, quoted_print, NoLetter}
use Rattle.query_syntax.specs.Ranges.{RangeLayout, range_print, range_says, IsRange}
use Rattle.query_syntax.specs.declared.query.Test.{Test}
use Rattle.query_syntax.specs.declared.query.Test.TheVariants.{Word, Prefix, Present}

-- a test: a word, a word and `*`, a minus and a word, quoted text, `*` or a range
pub data TestLayout : Type 0 where
  word : List Letter → TestLayout
  prefix : List Letter → TestLayout
  number : List Letter → TestLayout
  quote : List Letter → TestLayout
  star : TestLayout
  range : RangeLayout → TestLayout

-- its bytes
abbrev pub test_print : TestLayout → ByteList
test_print (word letters) = letters_print letters
test_print (prefix letters) = letters_print letters ++ 42 ∷ []
test_print (number letters) = 45 ∷ letters_print letters
test_print (quote letters) = quoted_print letters
test_print star = 42 ∷ []
test_print (range r) = range_print r

-- its parts are allowed
abbrev pub IsTest : TestLayout → Type 0
IsTest (word letters) = IsWord letters
IsTest (prefix letters) = IsWord letters
IsTest (number letters) = IsNumberWord letters
IsTest (quote letters) = AreLetters is_quoted_byte letters
IsTest star = Unit {0}
IsTest (range r) = IsRange r

-- the test that it says
abbrev pub test_says : TestLayout → Test
test_says (word letters) = Word (letters_text letters)
test_says (prefix letters) = Prefix (letters_text letters)
test_says (number letters) = Word (45 ∷ letters_text letters)
test_says (quote letters) = Word (letters_text letters)
test_says star = Present
test_says (range r) = range_says r

-- it is no minus and a word, which doesn't stand without a field: there the minus prohibits
abbrev pub IsUnsigned : TestLayout → Type 0
IsUnsigned (word letters) = Unit {0}
IsUnsigned (prefix letters) = Unit {0}
IsUnsigned (number letters) = ⊥
IsUnsigned (quote letters) = Unit {0}
IsUnsigned star = Unit {0}
IsUnsigned (range r) = Unit {0}

-- the bytes behind a test don't begin with `*`
abbrev pub NoStar : ByteList → Type 0
NoStar [] = Unit {0}
NoStar (b ∷ bytes) = (b == 42) ≡ false

-- the bytes behind a test don't continue it: a word is as long as it can be
abbrev pub TestEnds : TestLayout → ByteList → Type 0
TestEnds (word letters) behind = NoLetter behind × NoStar behind
TestEnds (prefix letters) behind = Unit {0}
TestEnds (number letters) behind = NoLetter behind
TestEnds (quote letters) behind = Unit {0}
TestEnds star behind = Unit {0}
TestEnds (range r) behind = Unit {0}
