-- What stands behind an item doesn't go on with it.
use Rattle.std.proofs.Common.{◌≡◌, ◌<◌, length, List, [], ◌∷◌, ◌++◌, Option, refl, arith}
use Rattle.std.proofs.Common.{length-append}
use Rattle.std.specs.Prelude.{false}
use Rattle.tuple_values.specs.Document.{ByteList}
use Rattle.query_syntax.specs.Letters.{is_blank, AreBlank, Letter, plain, escaped, letters_print}
use Rattle.query_syntax.specs.Letters.{is_special}
use Rattle.query_syntax.specs.Words.{BeginsWord, goes_on_word, NoLetter}
use Rattle.query_syntax.specs.Tests.{TestLayout, word, prefix, number, quote, star, range}
use Rattle.query_syntax.specs.Tests.{test_print, IsTest, NoStar, TestEnds}
use Rattle.query_syntax.specs.Layout.{ClauseLayout, all_laid, field_laid, test_laid, group_laid}
use Rattle.query_syntax.specs.Layout.{field_group_laid, ItemLayout, plain_laid, modified_laid}
use Rattle.query_syntax.specs.Layout.{clause_print, list_print, ClauseEnds, ItemEnds, IsClause}
use Rattle.query_syntax.proofs.ClassLemmas.{other, blank_no_word}

-- ---- bytes behind a list

-- the end of the text or a closing parenthesis
abbrev pub Closes : ByteList → Type 0
Closes [] = Unit {0}
Closes (b ∷ bytes) = b ≡ 41

-- a closing parenthesis goes on with no word
close_no_word : goes_on_word 41 ≡ false
unfolding is_special
close_no_word = refl

-- they go on with no word
pub closes_letter : (more : ByteList) → Closes more → NoLetter more
closes_letter [] closes = tt
closes_letter (b ∷ more) closes = rw closes close_no_word

-- nor do they begin with a star
pub closes_star : (more : ByteList) → Closes more → NoStar more
closes_star [] closes = tt
closes_star (b ∷ more) closes = rw closes refl

-- bytes that don't go on with a word, before others that don't
pub no_letter_more : (front more : ByteList) → NoLetter front → NoLetter more
    → NoLetter (front ++ more)
no_letter_more [] more l k = k
no_letter_more (b ∷ front) more l k = l

-- some bytes that don't, before others
pub no_letter_some : (front more : ByteList) → 0 < length front → NoLetter front
    → NoLetter (front ++ more)
no_letter_some [] more some l = absurd (omega arith)
no_letter_some (b ∷ front) more some l = l

-- bytes that begin with no star, before others that don't
pub no_star_more : (front more : ByteList) → NoStar front → NoStar more
    → NoStar (front ++ more)
no_star_more [] more l k = k
no_star_more (b ∷ front) more l k = l

-- blanks go on with no word
pub blanks_letter : (gap : ByteList) → AreBlank gap → NoLetter gap
blanks_letter [] blank = tt
blanks_letter (b ∷ gap) blank = blank_no_word b blank.0

-- and begin with no star
pub blanks_star : (gap : ByteList) → AreBlank gap → NoStar gap
blanks_star [] blank = tt
blanks_star (b ∷ gap) blank = other is_blank 42 b refl blank.0

-- ---- tests, clauses and items

-- what goes on with no word and begins with no star goes on with no test
pub test_ends_by : (t : TestLayout) (more : ByteList) → NoLetter more → NoStar more
    → TestEnds t more
test_ends_by (word letters) more l s = (l, s)
test_ends_by (prefix letters) more l s = tt
test_ends_by (number letters) more l s = l
test_ends_by (quote letters) more l s = tt
test_ends_by star more l s = tt
test_ends_by (range r) more l s = tt

-- what goes on with no test, before more such bytes
test_ends_more : (t : TestLayout) (front more : ByteList) → TestEnds t front → NoLetter more
    → NoStar more → TestEnds t (front ++ more)
test_ends_more (word letters) front more ends l s =
    (no_letter_more front more ends.0 l, no_star_more front more ends.1 s)
test_ends_more (prefix letters) front more ends l s = tt
test_ends_more (number letters) front more ends l s = no_letter_more front more ends l
test_ends_more (quote letters) front more ends l s = tt
test_ends_more star front more ends l s = tt
test_ends_more (range r) front more ends l s = tt

-- the same of a clause
clause_ends_by : (c : ClauseLayout) (more : ByteList) → NoLetter more → NoStar more
    → ClauseEnds c more
clause_ends_by all_laid more l s = tt
clause_ends_by (field_laid name gap t) more l s = test_ends_by t more l s
clause_ends_by (test_laid t) more l s = test_ends_by t more l s
clause_ends_by (group_laid before list) more l s = tt
clause_ends_by (field_group_laid name gap before list) more l s = tt

-- and with more
clause_ends_more : (c : ClauseLayout) (front more : ByteList) → ClauseEnds c front
    → NoLetter more → NoStar more → ClauseEnds c (front ++ more)
clause_ends_more all_laid front more ends l s = tt
clause_ends_more (field_laid name gap t) front more ends l s = test_ends_more t front more ends l s
clause_ends_more (test_laid t) front more ends l s = test_ends_more t front more ends l s
clause_ends_more (group_laid before list) front more ends l s = tt
clause_ends_more (field_group_laid name gap before list) front more ends l s = tt

-- the same of an item
pub item_ends_by : (i : ItemLayout) (more : ByteList) → NoLetter more → NoStar more
    → ItemEnds i more
item_ends_by (plain_laid c) more l s = clause_ends_by c more l s
item_ends_by (modified_laid m gap c) more l s = clause_ends_by c more l s

-- and with more
pub item_ends_more : (i : ItemLayout) (front more : ByteList) → ItemEnds i front
    → NoLetter more → NoStar more → ItemEnds i (front ++ more)
item_ends_more (plain_laid c) front more ends l s = clause_ends_more c front more ends l s
item_ends_more (modified_laid m gap c) front more ends l s = clause_ends_more c front more ends l s

-- ---- fronts of such bytes

-- a front of bytes that don't go on with a word doesn't
pub no_letter_front : (front more : ByteList) → NoLetter (front ++ more) → NoLetter front
no_letter_front [] more l = tt
no_letter_front (b ∷ front) more l = l

-- a front of bytes that begin with no star doesn't
no_star_front : (front more : ByteList) → NoStar (front ++ more) → NoStar front
no_star_front [] more l = tt
no_star_front (b ∷ front) more l = l

-- a front of bytes that don't go on with a test doesn't
test_ends_front : (t : TestLayout) (front more : ByteList) → TestEnds t (front ++ more)
    → TestEnds t front
test_ends_front (word letters) front more ends =
    (no_letter_front front more ends.0, no_star_front front more ends.1)
test_ends_front (prefix letters) front more ends = tt
test_ends_front (number letters) front more ends = no_letter_front front more ends
test_ends_front (quote letters) front more ends = tt
test_ends_front star front more ends = tt
test_ends_front (range r) front more ends = tt

-- nor with a clause
clause_ends_front : (c : ClauseLayout) (front more : ByteList) → ClauseEnds c (front ++ more)
    → ClauseEnds c front
clause_ends_front all_laid front more ends = tt
clause_ends_front (field_laid name gap t) front more ends = test_ends_front t front more ends
clause_ends_front (test_laid t) front more ends = test_ends_front t front more ends
clause_ends_front (group_laid before list) front more ends = tt
clause_ends_front (field_group_laid name gap before list) front more ends = tt

-- nor with an item
pub item_ends_front : (i : ItemLayout) (front more : ByteList) → ItemEnds i (front ++ more)
    → ItemEnds i front
item_ends_front (plain_laid c) front more ends = clause_ends_front c front more ends
item_ends_front (modified_laid m gap c) front more ends = clause_ends_front c front more ends

-- ---- clauses have bytes

-- a word has
word_some : (letters : List Letter) → BeginsWord letters → 0 < length (letters_print letters)
word_some [] begins = absurd begins
word_some (plain b ∷ letters) begins = omega arith
word_some (escaped b ∷ letters) begins = omega arith

-- so has a test that stands without a field
test_some : (t : TestLayout) → IsTest t → 0 < length (test_print t)
test_some (word letters) allowed = word_some letters allowed.begins
test_some (prefix letters) allowed =
    omega (arith, length-append (letters_print letters) (42 ∷ []))
test_some (number letters) allowed = omega arith
test_some (quote letters) allowed = omega arith
test_some star allowed = omega arith
test_some (range r) allowed = omega arith

-- so has a clause
pub clause_some : (field : Option ByteList) (c : ClauseLayout) → IsClause field c
    → 0 < length (clause_print c)
clause_some field all_laid allowed = omega arith
clause_some field (field_laid name gap t) allowed =
    omega (arith, length-append (letters_print name) (58 ∷ (gap ++ test_print t)))
clause_some field (test_laid t) allowed = test_some t allowed.1
clause_some field (group_laid before list) allowed = omega arith
clause_some field (field_group_laid name gap before list) allowed =
    omega (
      arith,
      length-append (letters_print name)
          (58 ∷ (gap ++ 40 ∷ (before ++ (list_print list ++ 41 ∷ [])))),
    )
