-- What is laid out as a test is read.
use Rattle.std.proofs.Common.{◌≡◌, ℕ, List, [], ◌∷◌, ◌++◌, Bool, true, false, Option, Some}
use Rattle.std.proofs.Common.{refl, ap, sym, ◌∙◌, append_assoc, subst}
use Rattle.std.specs.Prelude.{◌==◌, codes}
use Rattle.std.proofs.lemmas.Bool.{or_parts}
use Rattle.tuple_values.specs.Document.{ByteList}
use Rattle.query_syntax.specs.Letters.{is_blank, AreBlank, AreSomeBlanks, is_digit, is_word_byte}
use Rattle.query_syntax.specs.Letters.{Letter, plain, escaped, AreLetters, letters_print}
use Rattle.query_syntax.specs.Letters.{letters_text, has_escape, is_quoted_byte, is_bound_byte}
use Rattle.query_syntax.specs.Letters.{is_just, is_operator}
use Rattle.query_syntax.specs.Words.{IsWord, IsNumberWord, BeginsWord, quoted_print, goes_on_word}
use Rattle.query_syntax.specs.Words.{NoLetter}
use Rattle.query_syntax.specs.Ranges.{BoundLayout, bare, quoted}
use Rattle.query_syntax.specs.Ranges.{bound_print, bound_says, IsBound, RangeLayout, range_print}
use Rattle.query_syntax.specs.Ranges.{range_says, IsRange, end_print, to_print, closing}
use Rattle.query_syntax.specs.Ranges.{opening, bare_says, IsBareBound}
use Rattle.query_syntax.specs.Tests.{TestLayout, word, prefix, number, quote, star, range}
use Rattle.query_syntax.specs.Tests.{test_print, IsTest, test_says, NoStar, TestEnds}
use Rattle.query_syntax.specs.Machine.{Machine, takes, push, begin}
use Rattle.query_syntax.specs.Items.{end_test}
use Rattle.query_syntax.specs.Items.{end_bound, end_range, closed_step}
use Rattle.query_syntax.specs.Steps.{step}
use Rattle.query_syntax.specs.ItemSteps.{test_step}
use Rattle.query_syntax.specs.Reading.{run, asks, all_read}
use Rattle.query_syntax.specs.declared.query.Test.TheVariants as test
use Rattle.query_syntax.specs.declared.place.Side.{Side}
use Rattle.query_syntax.specs.declared.place.Side.TheVariants.{Low, High}
use Rattle.query_syntax.specs.declared.place.Kind.TheVariants.{Word, Number, Quote, Bare}
use Rattle.query_syntax.specs.declared.place.Kind.TheVariants.{Quoted}
use Rattle.query_syntax.specs.declared.place.Place.{Place}
use Rattle.query_syntax.specs.declared.place.Place.TheVariants.{Letters}
use Rattle.query_syntax.specs.declared.place.Place.TheVariants.{Escape, Tested, Minus}
use Rattle.query_syntax.specs.declared.place.Place.TheVariants.{MinusEscape, Before, Closed, Gap}
use Rattle.query_syntax.specs.declared.place.Place.TheVariants.{To}
use Rattle.query_syntax.proofs.ClassLemmas.{other, star_no_word, star_none, open_none}
use Rattle.query_syntax.proofs.ClassLemmas.{quote_none, bracket_none, brace_none, word_no_blank}
use Rattle.query_syntax.proofs.ClassLemmas.{blank_no_bare, digit_no_backslash}
use Rattle.query_syntax.proofs.ClassLemmas.{bound_no_blank}
use Rattle.query_syntax.proofs.LetterLemmas.{at, fresh, after_letters, first_byte, run-blanks}
use Rattle.query_syntax.proofs.LetterLemmas.{run-letters, run-begun, letter-plain}
use Rattle.query_syntax.proofs.LetterLemmas.{letter-escaped}

-- ---- bounds and ranges

-- bytes that don't go on with a bound: a first one, and no letter
abbrev Stops : Side → ByteList → Type 0
Stops side [] = ⊥
Stops side (b ∷ bytes) = takes (Bare side) b ≡ false

-- a bound without quotes begins behind its bracket or `TO`
bare_begins : (side : Side) (m : Machine) (letter : Letter) (letters : List Letter)
    → AreLetters is_bound_byte (letter ∷ letters)
    → step (at (Before side) m) (first_byte letter) (first_byte letter ∷ [])
    ≡ begin (Bare side) m (first_byte letter) (first_byte letter ∷ [])
bare_begins side m (plain b) letters are =
    rw (bound_no_blank b are.0, other is_bound_byte 34 b refl are.0) refl
bare_begins side m (escaped b) letters are = refl

-- a byte behind it
bare_ends : (side : Side) (m : Machine) (b : ℕ) → takes (Bare side) b ≡ false
    → is_just (codes "TO") m.escapes m.text ≡ false
    → step (at (Letters (Bare side)) m) b (b ∷ [])
    ≡ closed_step side
    (end_bound side (bare_says m.escapes m.text) (at (Letters (Bare side)) m)) b
bare_ends side m b stops is = rw (stops, is) refl

-- the letters of a bound are forgotten
pub end_bound_over : (side : Side) (bound : Option ByteList) (m : Machine) (place : Place)
    (text : ByteList) (escapes : Bool)
    → end_bound side bound (record m { place = place; text = text; escapes = escapes })
    ≡ end_bound side bound m
end_bound_over Low bound m place text escapes = refl
end_bound_over High bound m place text escapes = refl

-- where a bound is read, it is closed
pub closed_at : (side : Side) (bound : Option ByteList) (m : Machine) (b : ℕ)
    → closed_step side (end_bound side bound m) b ≡ step (end_bound side bound m) b (b ∷ [])
closed_at Low bound m b = refl
closed_at High bound m b = refl

-- a bound without quotes is read as what it says
run-bare : (side : Side) (m : Machine) (letters : List Letter) (more : ByteList)
    → IsBareBound letters → Stops side more
    → run (Some (at (Before side) m)) (letters_print letters ++ more)
    ≡ run (Some (end_bound side (bound_says (bare letters)) m)) more
run-bare side m [] more allowed stops = absurd (allowed.not_empty refl)
run-bare side m (letter ∷ letters) [] allowed stops = absurd stops
run-bare side m (letter ∷ letters) (b ∷ more) allowed stops =
    run-begun (Bare side) (at (Before side) m) letter letters (b ∷ more)
    (bare_begins side m letter letters allowed.are_letters) allowed.are_letters
    ∙ ap (λ o. run o more)
    (bare_ends side (after_letters (Bare side) (fresh m) (letter ∷ letters)) b stops allowed.not_to
    ∙ ap (λ x. closed_step side x b)
    (end_bound_over side (bound_says (bare (letter ∷ letters))) m (Letters (Bare side))
    (letters_text (letter ∷ letters)) (has_escape (letter ∷ letters)))
    ∙ closed_at side (bound_says (bare (letter ∷ letters))) m b)

-- so is a quoted one
run-quoted : (side : Side) (m : Machine) (letters : List Letter) (more : ByteList)
    → AreLetters is_quoted_byte letters
    → run (Some (at (Before side) m)) (bound_print (quoted letters) ++ more)
    ≡ run (Some (end_bound side (bound_says (quoted letters)) m)) more
run-quoted side m letters more are =
    ap (λ t. run (Some (at (Letters (Quoted side)) (fresh m))) t)
    (append_assoc (letters_print letters) (34 ∷ []) more)
    ∙ run-letters (Quoted side) (fresh m) letters (34 ∷ more) are
    ∙ ap (λ x. run (Some x) more)
    (end_bound_over side (bound_says (quoted letters)) m (Letters (Quoted side))
    (letters_text letters) (has_escape letters))

-- a bound behind blanks is read as what it says
pub run-bound : (side : Side) (m : Machine) (bound : BoundLayout) (more : ByteList)
    → IsBound bound → Stops side more
    → run (Some (at (Before side) m)) (bound_print bound ++ more)
    ≡ run (Some (end_bound side (bound_says bound) m)) more
run-bound side m (bare letters) more allowed stops = run-bare side m letters more allowed stops
run-bound side m (quoted letters) more allowed stops = run-quoted side m letters more allowed

-- blanks before a bound
before_blank : (side : Side) (m : Machine) (b : ℕ) → is_blank b ≡ true
    → step (at (Before side) m) b (b ∷ []) ≡ Some (at (Before side) m)
before_blank side m b is = rw is refl

-- blanks and a bracket end a bound
closing_stops : (gap : ByteList) (high_in : Bool) (more : ByteList) → AreBlank gap
    → Stops High (gap ++ closing high_in ∷ more)
closing_stops [] true more blank = refl
closing_stops [] false more blank = refl
closing_stops (b ∷ gap) high_in more blank = blank_no_bare High b blank.0

-- so do blanks
blanks_stop : (gap : ByteList) (more : ByteList) → AreSomeBlanks gap → Stops Low (gap ++ more)
blanks_stop [] more blank = absurd blank
blanks_stop (b ∷ gap) more blank = blank_no_bare Low b blank.0

-- a bracket ends a range
run-closing : (m : Machine) (high_in : Bool) (more : ByteList)
    → run (Some (at (Closed High) m)) (closing high_in ∷ more)
    ≡ run (Some (end_range high_in m)) more
run-closing m true more = refl
run-closing m false more = refl

-- blanks behind an upper bound
closed_blank : (m : Machine) (b : ℕ) → is_blank b ≡ true
    → step (at (Closed High) m) b (b ∷ []) ≡ Some (at (Closed High) m)
closed_blank m b is = rw is refl

-- blanks behind a lower bound
gap_blank : (m : Machine) (b : ℕ) → is_blank b ≡ true
    → step (at Gap m) b (b ∷ []) ≡ Some (at Gap m)
gap_blank m b is = rw is refl

-- `TO` between blanks leads on to the upper bound
run-to : (m : Machine) (gap behind more : ByteList) → AreSomeBlanks gap → AreSomeBlanks behind
    → run (Some (at (Closed Low) m)) (gap ++ 84 ∷ 79 ∷ (behind ++ more))
    ≡ run (Some (at (Before High) m)) more
run-to m [] behind more blank blank_behind = absurd blank
run-to m (b ∷ gap) [] more blank blank_behind = absurd blank_behind
run-to m (b ∷ gap) (d ∷ behind) more blank blank_behind =
    ap (λ o. run o (gap ++ 84 ∷ 79 ∷ (d ∷ (behind ++ more)))) (first_blank m b blank.0)
    ∙ run-blanks (at Gap m) gap (84 ∷ 79 ∷ (d ∷ (behind ++ more))) (gap_blank m) blank.1
    ∙ ap (λ o. run o (behind ++ more)) (to_blank m d blank_behind.0)
    ∙ run-blanks (at (Before High) m) behind more (before_blank High m) blank_behind.1
  where
    first_blank : (m : Machine) (b : ℕ) → is_blank b ≡ true
        → step (at (Closed Low) m) b (b ∷ []) ≡ Some (at Gap m)
    first_blank m b is = rw is refl

    to_blank : (m : Machine) (b : ℕ) → is_blank b ≡ true
        → step (at To m) b (b ∷ []) ≡ Some (at (Before High) m)
    to_blank m b is = rw is refl

-- what is behind the upper bound ends the range
run-end : (m : Machine) (r : RangeLayout) (more : ByteList) → AreBlank r.behind_high
    → run (Some (at (Closed High) m)) (end_print r ++ more)
    ≡ run (Some (end_range r.high_in m)) more
run-end m r more blank =
    ap (run (Some (at (Closed High) m))) (append_assoc r.behind_high (closing r.high_in ∷ []) more)
    ∙ run-blanks (at (Closed High) m) r.behind_high (closing r.high_in ∷ more) (closed_blank m)
    blank
    ∙ run-closing m r.high_in more

-- what is behind the lower bound, and more
pub to_print-append : (r : RangeLayout) (more : ByteList)
    → to_print r ++ more ≡ r.behind_low ++ 84 ∷ 79 ∷
    (r.before_high ++ (bound_print r.high ++ (end_print r ++ more)))
to_print-append r more = simp append_assoc

-- so does what is behind the lower one
run-upper : (m : Machine) (r : RangeLayout) (more : ByteList) → IsRange r
    → run (Some (at (Closed Low) m)) (to_print r ++ more)
    ≡ run (Some (end_range r.high_in (end_bound High (bound_says r.high) m))) more
run-upper m r more allowed =
    ap (run (Some (at (Closed Low) m))) (to_print-append r more)
    ∙ run-to m r.behind_low r.before_high (bound_print r.high ++ (end_print r ++ more))
    allowed.behind_low allowed.before_high
    ∙ run-bound High m r.high (end_print r ++ more) allowed.high
    (subst (Stops High) (sym (append_assoc r.behind_high (closing r.high_in ∷ []) more))
    (closing_stops r.behind_high r.high_in more allowed.behind_high))
    ∙ run-end (end_bound High (bound_says r.high) m) r more allowed.behind_high

-- a bracket begins a range
run-opening : (m : Machine) (low_in : Bool) (more : ByteList)
    → run (Some (at Tested m)) (opening low_in ∷ more)
    ≡ run (Some (at (Before Low) (record m { low_in = low_in }))) more
unfolding test_step
run-opening m true more = refl
run-opening m false more = refl

-- a range is read as what it says
run-range : (m : Machine) (r : RangeLayout) (more : ByteList) → IsRange r
    → run (Some (at Tested m)) (range_print r ++ more)
    ≡ run (Some (end_test (range_says r) m)) more
run-range m r more allowed =
    let opened = record m { low_in = r.low_in } in
    run-opening m r.low_in ((r.before_low ++ (bound_print r.low ++ to_print r)) ++ more)
    ∙ ap (run (Some (at (Before Low) opened)))
    (append_assoc r.before_low (bound_print r.low ++ to_print r) more
    ∙ ap (λ t. r.before_low ++ t) (append_assoc (bound_print r.low) (to_print r) more))
    ∙ run-blanks (at (Before Low) opened) r.before_low
    (bound_print r.low ++ (to_print r ++ more)) (before_blank Low opened) allowed.before_low
    ∙ run-bound Low opened r.low (to_print r ++ more) allowed.low
    (subst (Stops Low) (sym (to_print-append r more))
    (blanks_stop r.behind_low
    (84 ∷ 79 ∷ (r.before_high ++ (bound_print r.high ++ (end_print r ++ more))))
    allowed.behind_low))
    ∙ run-upper (end_bound Low (bound_says r.low) opened) r more allowed

-- ---- tests

-- a word begins behind the colon
word_begins : (m : Machine) (letter : Letter) (letters : List Letter)
    → AreLetters is_word_byte (letter ∷ letters) → BeginsWord (letter ∷ letters)
    → step (at Tested m) (first_byte letter) (first_byte letter ∷ [])
    ≡ begin Word (at Tested m) (first_byte letter) (first_byte letter ∷ [])
unfolding test_step
word_begins m (plain b) letters are begins =
    let signs = or_parts (b == 43) (b == 45) begins in
    rw (
      word_no_blank b are.0,
      other is_word_byte 42 b star_none are.0,
      other is_word_byte 34 b quote_none are.0,
      other is_word_byte 91 b bracket_none are.0,
      other is_word_byte 123 b brace_none are.0,
      signs.1,
      other is_word_byte 40 b open_none are.0,
      signs.0,
    ) refl
word_begins m (escaped b) letters are begins = refl

-- a word is read
run-word : (m : Machine) (letters : List Letter) (more : ByteList) → IsWord letters
    → run (Some (at Tested m)) (letters_print letters ++ more)
    ≡ run (Some (after_letters Word (fresh m) letters)) more
run-word m [] more allowed = absurd allowed.begins
run-word m (letter ∷ letters) more allowed =
    run-begun Word (at Tested m) letter letters more
    (word_begins m letter letters allowed.are_letters allowed.begins) allowed.are_letters

-- a star behind a word
word_star : (m : Machine) → is_operator m.escapes m.text ≡ false
    → step (at (Letters Word) m) 42 (42 ∷ []) ≡ Some (end_test (test.Prefix m.text) m)
word_star m whole = rw (star_no_word, whole) refl

-- a digit behind a minus
minus_digit : (m : Machine) (b : ℕ) → is_digit b ≡ true
    → step (at Minus m) b (b ∷ []) ≡ Some (push Number m (b ∷ []))
minus_digit m b is = rw (digit_no_backslash b is, is) refl

-- an escaped one
minus_escaped : (m : Machine) (b : ℕ) → is_digit b ≡ true
    → step (at MinusEscape m) b (b ∷ []) ≡ Some (push Number m (b ∷ []))
minus_escaped m b is = rw is refl

-- a number is read
run-number : (m : Machine) (letters : List Letter) (more : ByteList) → IsNumberWord letters
    → run (Some (at Minus m)) (letters_print letters ++ more)
    ≡ run (Some (after_letters Number m letters)) more
run-number m [] more allowed = absurd allowed.begins
run-number m (plain b ∷ letters) more allowed =
    ap (λ o. run o (letters_print letters ++ more))
    (minus_digit m b allowed.begins ∙ sym (letter-plain Number m b allowed.are_letters.0))
    ∙ run-letters Number m (plain b ∷ letters) more allowed.are_letters
run-number m (escaped b ∷ letters) more allowed =
    ap (λ o. run o (letters_print letters ++ more))
    (minus_escaped (record m { escapes = true }) b allowed.begins
    ∙ sym (letter-escaped Number (at (Escape Number) m) b allowed.are_letters.0))
    ∙ run-letters Number m (escaped b ∷ letters) more allowed.are_letters

-- a quoted text is read
run-quote : (m : Machine) (letters : List Letter) (more : ByteList)
    → AreLetters is_quoted_byte letters
    → run (Some (at Tested m)) (quoted_print letters ++ more)
    ≡ run (Some (end_test (test.Word (letters_text letters)) m)) more
unfolding test_step
run-quote m letters more are =
    ap (λ t. run (Some (at (Letters Quote) (fresh m))) t)
    (append_assoc (letters_print letters) (34 ∷ []) more)
    ∙ run-letters Quote (fresh m) letters (34 ∷ more) are

-- where each byte that goes on with no word leads on alike, all such bytes ask for the same
pub ends_alike : (m n : Machine) (more : ByteList) → NoLetter more
    → ((b : ℕ) → goes_on_word b ≡ false → step m b (b ∷ []) ≡ step n b (b ∷ []))
    → asks (run (Some m) more) ≡ asks (run (Some n) more)
ends_alike m n [] letter same = ap all_read (same 32 refl)
ends_alike m n (b ∷ more) letter same = ap (λ o. asks (run o more)) (same b letter)

-- so do those behind a word
word_ends : (m : Machine) (more : ByteList) → is_operator m.escapes m.text ≡ false
    → NoLetter more → NoStar more
    → asks (run (Some (at (Letters Word) m)) more)
    ≡ asks (run (Some (end_test (test.Word m.text) m)) more)
word_ends m [] whole l t = rw whole refl
word_ends m (b ∷ more) whole l t =
    ap (λ o. asks (run o more)) (next b l t)
  where
    next : (b : ℕ) → goes_on_word b ≡ false → (b == 42) ≡ false
        → step (at (Letters Word) m) b (b ∷ [])
        ≡ step (end_test (test.Word m.text) m) b (b ∷ [])
    next b k s = rw (k, whole, s) refl

-- those behind a number
number_ends : (m : Machine) (more : ByteList) → NoLetter more
    → asks (run (Some (at (Letters Number) m)) more)
    ≡ asks (run (Some (end_test (test.Word m.text) m)) more)
number_ends m more letter =
    ends_alike (at (Letters Number) m) (end_test (test.Word m.text) m) more letter
    (λ b l. rw l refl)

-- a minus begins a number
run-minus : (m : Machine) (more : ByteList)
    → run (Some (at Tested m)) (45 ∷ more)
    ≡ run (Some (at Minus (record m { text = 45 ∷ []; escapes = false }))) more
unfolding test_step
run-minus m more = refl

-- a star is a test
run-star : (m : Machine) (more : ByteList)
    → run (Some (at Tested m)) (42 ∷ more) ≡ run (Some (end_test test.Present m)) more
unfolding test_step
run-star m more = refl

-- a test is read as what it says
pub asks-test : (m : Machine) (t : TestLayout) (more : ByteList) → IsTest t → TestEnds t more
    → asks (run (Some (at Tested m)) (test_print t ++ more))
    ≡ asks (run (Some (end_test (test_says t) m)) more)
asks-test m (word letters) more allowed ends =
    ap asks (run-word m letters more allowed)
    ∙ word_ends (after_letters Word (fresh m) letters) more allowed.no_operator ends.0 ends.1
asks-test m (prefix letters) more allowed ends =
    ap (λ t. asks (run (Some (at Tested m)) t))
    (append_assoc (letters_print letters) (42 ∷ []) more)
    ∙ ap asks (run-word m letters (42 ∷ more) allowed
    ∙ ap (λ o. run o more)
    (word_star (after_letters Word (fresh m) letters) allowed.no_operator))
asks-test m (number letters) more allowed ends =
    let minus = record m { text = 45 ∷ []; escapes = false } in
    ap asks (run-minus m (letters_print letters ++ more) ∙ run-number minus letters more allowed)
    ∙ number_ends (after_letters Number minus letters) more ends
asks-test m (quote letters) more allowed ends = ap asks (run-quote m letters more allowed)
asks-test m star more allowed ends = ap asks (run-star m more)
asks-test m (range r) more allowed ends = ap asks (run-range m r more allowed)
