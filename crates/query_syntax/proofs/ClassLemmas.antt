-- Which bytes are in which class.
use Rattle.std.proofs.Common.{◌≡◌, ℕ, Bool, true, false, refl, ◌∙◌, ap, sym, arith}
use Rattle.std.proofs.Common.{⊎_elim}
use Rattle.std.specs.Prelude.{◌==◌}
use Rattle.std.proofs.lemmas.Bool.{eqb-true, false_from_ne_true, false≢true, or_parts, not-true}
use Rattle.std.proofs.lemmas.Bool.{or_cases, both_ways}
use Rattle.std.proofs.lemmas.Bool.Decides.{nat_tests}
use Rattle.query_syntax.specs.Letters.{is_blank, is_special, is_digit, is_word_byte}
use Rattle.query_syntax.specs.Letters.{is_bound_byte}
use Rattle.query_syntax.specs.Words.{goes_on_word}
use Rattle.query_syntax.specs.Machine.{is_letter, takes}
use Rattle.query_syntax.specs.declared.place.Side.{Side}
use Rattle.query_syntax.specs.declared.place.Kind.{Kind}
use Rattle.query_syntax.specs.declared.place.Kind.TheVariants.{Name, Word, Number, Quote, Bare}
use Rattle.query_syntax.specs.declared.place.Kind.TheVariants.{Quoted}

-- a byte that passes a test isn't one that fails it
pub other : (passes : ℕ → Bool) (n b : ℕ) → passes n ≡ false → passes b ≡ true → (b == n) ≡ false
other passes n b fails is =
    false_from_ne_true (b == n)
    (λ same. false≢true (sym fails ∙ ap passes (sym (eqb-true b n same)) ∙ is))

-- a star begins no letter of a word
pub star_no_word : takes Word 42 ≡ false
unfolding is_special
star_no_word = refl

-- nor does a colon
pub colon_no_word : goes_on_word 58 ≡ false
unfolding is_special
colon_no_word = refl

-- a star is no byte of a word
pub star_none : is_word_byte 42 ≡ false
unfolding is_special
star_none = refl

-- nor is a quote
pub quote_none : is_word_byte 34 ≡ false
unfolding is_special
quote_none = refl

-- nor an opening parenthesis
pub open_none : is_word_byte 40 ≡ false
unfolding is_special
open_none = refl

-- nor a closing one
pub close_none : is_word_byte 41 ≡ false
unfolding is_special
close_none = refl

-- nor an exclamation mark
pub bang_none : is_word_byte 33 ≡ false
unfolding is_special
bang_none = refl

-- nor an opening bracket
pub bracket_none : is_word_byte 91 ≡ false
unfolding is_special
bracket_none = refl

-- nor an opening brace
pub brace_none : is_word_byte 123 ≡ false
unfolding is_special
brace_none = refl

-- a letter of a word is no blank
pub word_no_blank : (b : ℕ) → is_word_byte b ≡ true → is_blank b ≡ false
word_no_blank b is = (or_parts (is_blank b) (is_special b) (not-true _ is)).0

-- a backslash is no letter
backslash : (kind : Kind) → is_letter kind 92 ≡ false
unfolding is_special
backslash (Name stage) = refl
backslash Word = refl
backslash Number = refl
backslash Quote = refl
backslash (Bare side) = refl
backslash (Quoted side) = refl

-- a letter is no backslash
pub letter_no_backslash : (kind : Kind) (b : ℕ) → is_letter kind b ≡ true → (b == 92) ≡ false
letter_no_backslash kind b is = other (is_letter kind) 92 b (backslash kind) is

-- a blank begins no letter of a word
pub blank_no_word : (b : ℕ) → is_blank b ≡ true → takes Word b ≡ false
blank_no_word b blank = rw (other is_blank 92 b refl blank, blank) refl

-- nor one of a bound
pub blank_no_bare : (side : Side) (b : ℕ) → is_blank b ≡ true
    → takes (Bare side) b ≡ false
blank_no_bare side b blank = rw (other is_blank 92 b refl blank, blank) refl

-- a digit is no backslash
pub digit_no_backslash : (b : ℕ) → is_digit b ≡ true → (b == 92) ≡ false
digit_no_backslash b is = other is_digit 92 b refl is

-- a letter of a bound is no blank
pub bound_no_blank : (b : ℕ) → is_bound_byte b ≡ true → is_blank b ≡ false
bound_no_blank b is =
    (or_parts _ _ (or_parts _ _ (or_parts _ _ (or_parts _ _ (not-true _ is)).0).0).0).0

-- a letter is taken as one, if it is no backslash
pub taken_letter : (kind : Kind) (b : ℕ) → takes kind b ≡ true → (b == 92) ≡ false
    → is_letter kind b ≡ true
taken_letter kind b is plain =
    ⊎_elim (λ slash. absurd (both_ways (b == 92) plain slash)) (λ letter. letter)
    (or_cases (b == 92) (is_letter kind b) is)

-- a digit is a letter of a word
pub digit_word : (b : ℕ) → is_digit b ≡ true → is_word_byte b ≡ true
unfolding is_special
digit_word b is = grind (arith, nat_tests)

-- and no `u`
pub digit_no_u : (b : ℕ) → is_digit b ≡ true → (b == 117) ≡ false
digit_no_u b is = other is_digit 117 b refl is
