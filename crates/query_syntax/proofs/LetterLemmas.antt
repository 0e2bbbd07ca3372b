-- Letters are read one after another, and blanks passed over.
use Rattle.std.proofs.Common.{◌≡◌, ℕ, List, [], ◌∷◌, ◌++◌, Bool, true, false, Some}
use Rattle.std.proofs.Common.{refl, ap, sym, ◌∙◌, append_assoc, append-nil}
use Rattle.std.specs.Prelude.{◌==◌, ◌||◌}
use Rattle.std.proofs.lemmas.Bool.{or_right}
use Rattle.tuple_values.specs.Document.{ByteList}
use Rattle.query_syntax.specs.Letters.{is_blank, AreBlank, Letter, plain, escaped, IsLetter}
use Rattle.query_syntax.specs.Letters.{AreLetters}
use Rattle.query_syntax.specs.Letters.{letters_print, letters_text, has_escape}
use Rattle.query_syntax.specs.Machine.{Machine, is_letter, takes, push, begin}
use Rattle.query_syntax.specs.Steps.{step}
use Rattle.query_syntax.specs.Steps.{step_at}
use Rattle.query_syntax.specs.Reading.{run}
use Rattle.query_syntax.specs.declared.place.Kind.{Kind}
use Rattle.query_syntax.specs.declared.place.Place.{Place}
use Rattle.query_syntax.specs.declared.place.Place.TheVariants.{Letters, Escape}
use Rattle.query_syntax.proofs.ClassLemmas.{letter_no_backslash}

-- ---- blanks

-- blanks are passed over where one is
pub run-blanks : (m : Machine) (gap more : ByteList)
    → ((b : ℕ) → is_blank b ≡ true → step m b (b ∷ []) ≡ Some m) → AreBlank gap
    → run (Some m) (gap ++ more) ≡ run (Some m) more
run-blanks m [] more stays blank = refl
run-blanks m (b ∷ gap) more stays blank =
    ap (λ o. run o (gap ++ more)) (stays b blank.0) ∙ run-blanks m gap more stays blank.1

-- ---- letters

-- the same at another place
abbrev pub at : Place → Machine → Machine
at place m = record m { place = place }

-- what is read with these letters more
abbrev pub after_letters : Kind → Machine → List Letter → Machine
after_letters kind m letters = record m {
  place = Letters kind;
  text = m.text ++ letters_text letters;
  escapes = m.escapes || has_escape letters;
}

-- before the first of some letters
abbrev pub fresh : Machine → Machine
fresh m = record m { text = []; escapes = false }

-- a letter by itself
pub letter-plain : (kind : Kind) (m : Machine) (b : ℕ) → is_letter kind b ≡ true
    → step_at (Letters kind) (at (Letters kind) m) b (b ∷ []) ≡ Some (push kind m (b ∷ []))
letter-plain kind m b is = rw (letter_no_backslash kind b is, is) refl

-- a letter behind a backslash
pub letter-escaped : (kind : Kind) (m : Machine) (b : ℕ) → (b == 117) ≡ false
    → step_at (Escape kind) m b (b ∷ []) ≡ Some (push kind (record m { escapes = true }) (b ∷ []))
letter-escaped kind m b is = rw is refl

-- none or false is the first
or-false : (b : Bool) → (b || false) ≡ b
or-false true = refl
or-false false = refl

-- an escape makes the others no matter
or-true : (b : Bool) → (b || true) ≡ true
or-true true = refl
or-true false = refl

-- no letter more
pub after-nothing : (kind : Kind) (m : Machine)
    → at (Letters kind) m ≡ after_letters kind m []
after-nothing kind m =
    ap (λ t. record m { place = Letters kind; text = t }) (sym (append-nil m.text))
    ∙ ap (λ e. record m { place = Letters kind; text = m.text ++ []; escapes = e })
    (sym (or-false m.escapes))

-- a letter by itself, and more
pub after-plain : (kind : Kind) (m : Machine) (b : ℕ) (letters : List Letter)
    → after_letters kind (record m { text = m.text ++ b ∷ [] }) letters
    ≡ after_letters kind m (plain b ∷ letters)
after-plain kind m b letters =
    ap (λ t. record m {
      place = Letters kind;
      text = t;
      escapes = m.escapes || has_escape letters;
    }) (append_assoc m.text (b ∷ []) (letters_text letters))

-- a letter behind a backslash, and more
pub after-escaped : (kind : Kind) (m : Machine) (b : ℕ) (letters : List Letter)
    → after_letters kind (record m { text = m.text ++ b ∷ []; escapes = true }) letters
    ≡ after_letters kind m (escaped b ∷ letters)
after-escaped kind m b letters =
    ap (λ t. record m { place = Letters kind; text = t; escapes = true })
    (append_assoc m.text (b ∷ []) (letters_text letters))
    ∙ ap (λ e. record m {
      place = Letters kind;
      text = m.text ++ (b ∷ letters_text letters);
      escapes = e;
    }) (sym (or-true m.escapes))

-- letters are read
pub run-letters : (kind : Kind) (m : Machine) (letters : List Letter) (more : ByteList)
    → AreLetters (is_letter kind) letters
    → run (Some (at (Letters kind) m)) (letters_print letters ++ more)
    ≡ run (Some (after_letters kind m letters)) more
run-letters kind m [] more are = ap (λ n. run (Some n) more) (after-nothing kind m)
run-letters kind m (plain b ∷ letters) more are =
    ap (λ o. run o (letters_print letters ++ more)) (letter-plain kind m b are.0)
    ∙ run-letters kind (record m { text = m.text ++ b ∷ [] }) letters more are.1
    ∙ ap (λ n. run (Some n) more) (after-plain kind m b letters)
run-letters kind m (escaped b ∷ letters) more are =
    ap (λ o. run o (letters_print letters ++ more)) (letter-escaped kind m b are.0)
    ∙ run-letters kind (record m { text = m.text ++ b ∷ []; escapes = true }) letters more are.1
    ∙ ap (λ n. run (Some n) more) (after-escaped kind m b letters)

-- the byte with which a letter begins
abbrev pub first_byte : Letter → ℕ
first_byte (plain b) = b
first_byte (escaped b) = 92

-- a byte with which letters may begin is taken as if some letters stood before it
pub begin-taken : (kind : Kind) (m : Machine) (b : ℕ) (bytes : ByteList) → takes kind b ≡ true
    → begin kind m b bytes ≡ step (at (Letters kind) (fresh m)) b bytes
begin-taken kind m b bytes is = rw is refl

-- a letter is taken at its first byte
takes-first : (kind : Kind) (letter : Letter) → IsLetter (is_letter kind) letter
    → takes kind (first_byte letter) ≡ true
takes-first kind (plain b) is = or_right (b == 92) (is_letter kind b) is
takes-first kind (escaped b) is = refl

-- letters are read from where they may begin
pub run-begun : (kind : Kind) (m : Machine) (letter : Letter) (letters : List Letter)
    (more : ByteList)
    → step m (first_byte letter) (first_byte letter ∷ [])
    ≡ begin kind m (first_byte letter) (first_byte letter ∷ [])
    → AreLetters (is_letter kind) (letter ∷ letters)
    → run (Some m) (letters_print (letter ∷ letters) ++ more)
    ≡ run (Some (after_letters kind (fresh m) (letter ∷ letters))) more
run-begun kind m (plain b) letters more begins are =
    ap (λ o. run o (letters_print letters ++ more))
    (begins ∙ begin-taken kind m b (b ∷ []) (takes-first kind (plain b) are.0))
    ∙ run-letters kind (fresh m) (plain b ∷ letters) more are
run-begun kind m (escaped b) letters more begins are =
    ap (λ o. run o (b ∷ (letters_print letters ++ more)))
    (begins ∙ begin-taken kind m 92 (92 ∷ []) refl)
    ∙ run-letters kind (fresh m) (escaped b ∷ letters) more are
