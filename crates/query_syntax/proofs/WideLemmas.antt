-- Characters past ASCII: all of their bytes are, and the machine takes them alike.
use Rattle.std.proofs.Common.{◌≡◌, ℕ, suc, ◌<◌, ◌≤◌, [], ◌∷◌, ◌++◌, length, get_or}
use Rattle.std.proofs.Common.{true, false, Option, Some, None, refl, arith, ◌∙◌, ap, sym}
use Rattle.std.proofs.Common.{⊎_elim, append_assoc, append-nil, subst, encode_utf8}
use Rattle.std.specs.Prelude.{◌==◌}
use Rattle.std.specs.List.{AllByRecursion}
use Rattle.std.proofs.lemmas.Bool.{cases_lt}
use Rattle.std.proofs.lemmas.Bool.Decides.{nat_tests}
use Rattle.std.proofs.lemmas.Str.{inside_one, encode_ascii, length-encode, len_utf8_bounds}
use Rattle.tuple_values.specs.Document.{ByteList}
use Rattle.query_syntax.specs.Letters.{is_blank, is_special, is_digit}
use Rattle.query_syntax.specs.Machine.{Machine, push, takes}
use Rattle.query_syntax.specs.Items.{end_item}
use Rattle.query_syntax.specs.Steps.{step_at, step}
use Rattle.query_syntax.specs.ItemSteps.{test_step, item_step, begin_item_step}
use Rattle.query_syntax.specs.ItemSteps.{star_step}
use Rattle.query_syntax.specs.Tree.{on_field}
use Rattle.query_syntax.specs.declared.query.Test.TheVariants as test
use Rattle.query_syntax.specs.Reading.{run}
use Rattle.query_syntax.specs.declared.place.Side.TheVariants.{Low, High}
use Rattle.query_syntax.specs.declared.place.Stage.{Stage}
use Rattle.query_syntax.specs.declared.place.Stage.TheVariants.{Behind}
use Rattle.query_syntax.specs.declared.place.Kind.{Kind}
use Rattle.query_syntax.specs.declared.place.Kind.TheVariants.{Name, Word, Number, Quote, Bare}
use Rattle.query_syntax.specs.declared.place.Kind.TheVariants.{Quoted}
use Rattle.query_syntax.specs.declared.place.Place.{Place}
use Rattle.query_syntax.specs.declared.place.Place.TheVariants.{Item, Star, Colon, Letters}
use Rattle.query_syntax.specs.declared.place.Place.TheVariants.{Escape, Tested, Minus}
use Rattle.query_syntax.specs.declared.place.Place.TheVariants.{MinusEscape, Before, Closed, Gap}
use Rattle.query_syntax.specs.declared.place.Place.TheVariants.{T, To}
use Rattle.query_syntax.proofs.LetterLemmas.{fresh}
use Rattle.query_syntax.proofs.RunLemmas.{run-nothing}

-- ---- their bytes

-- bytes past ASCII
abbrev pub AreWide : ByteList → Type 0
AreWide = AllByRecursion (λ b. 128 ≤ b)

-- bytes are past ASCII if the one at each place is
wide_by_place : (bytes : ByteList) → ((k : ℕ) → k < length bytes → 128 ≤ get_or bytes k 0)
    → AreWide bytes
wide_by_place [] at = tt
wide_by_place (b ∷ bytes) at =
    (at 0 (omega arith), wide_by_place bytes (λ k lt. at (suc k) (omega arith)))

-- the bytes of a character past ASCII are
pub wide_bytes : (c : ℕ) → 128 ≤ c → AreWide (encode_utf8 c)
wide_bytes c wide = wide_by_place (encode_utf8 c) at
  where
    at : (k : ℕ) → k < length (encode_utf8 c) → 128 ≤ get_or (encode_utf8 c) k 0
    at k lt = ⊎_elim
        (λ (low : get_or (encode_utf8 c) k 0 < 128).
        let is : c ≡ get_or (encode_utf8 c) k 0 =
        inside_one c [] (encode_utf8 c) k (sym (append-nil (encode_utf8 c))) lt low in
        absurd (omega arith))
        (λ (high : 128 ≤ get_or (encode_utf8 c) k 0). high)
        (cases_lt (get_or (encode_utf8 c) k 0) 128)

-- ---- what the machine makes of them

-- a byte past ASCII is none of those below
off : (b n : ℕ) → 128 ≤ b → n < 128 → (b == n) ≡ false
off b n wide low = grind (arith, nat_tests)

-- so it is no blank
no_blank : (b : ℕ) → 128 ≤ b → is_blank b ≡ false
no_blank b wide = grind (arith, nat_tests)

-- it is not special
no_special : (b : ℕ) → 128 ≤ b → is_special b ≡ false
unfolding is_special
no_special b wide = grind (arith, nat_tests)

-- it is no digit
no_digit : (b : ℕ) → 128 ≤ b → is_digit b ≡ false
no_digit b wide = grind (arith, nat_tests)

-- so it is a letter of a word
wide_word : (b : ℕ) → 128 ≤ b → takes Word b ≡ true
wide_word b wide = rw (off b 92 wide (omega arith), no_blank b wide, no_special b wide) refl

-- and of quoted text
wide_quoted : (b : ℕ) → 128 ≤ b → takes Quote b ≡ true
wide_quoted b wide = rw (off b 92 wide (omega arith), off b 34 wide (omega arith)) refl

-- so it is any letter
wide_letter : (kind : Kind) (b : ℕ) → 128 ≤ b → takes kind b ≡ true
wide_letter (Name stage) b wide = wide_word b wide
wide_letter Word b wide = wide_word b wide
wide_letter Number b wide = wide_word b wide
wide_letter Quote b wide = wide_quoted b wide
wide_letter (Bare side) b wide = grind (arith, nat_tests)
wide_letter (Quoted side) b wide = wide_quoted b wide

-- the machine with one more behind a star that is a test, in a group of this field
abbrev star_wide : Option ByteList → Machine → ByteList → Option Machine
star_wide None m bytes = None
star_wide (Some field) m bytes =
    Some (push (Name Behind) (fresh (end_item (on_field field test.Present) m)) bytes)

-- the machine with a character past ASCII more
abbrev wide_at : Place → Machine → ByteList → Option Machine
wide_at (Item stage) m bytes = Some (push (Name stage) (fresh m) bytes)
wide_at Star m bytes = star_wide m.field m bytes
wide_at Colon m bytes = None
wide_at (Letters kind) m bytes = Some (push kind m bytes)
wide_at (Escape kind) m bytes = Some (push kind (record m { escapes = true }) bytes)
wide_at Tested m bytes = Some (push Word (fresh m) bytes)
wide_at Minus m bytes = None
wide_at MinusEscape m bytes = None
wide_at (Before side) m bytes = Some (push (Bare side) (fresh m) bytes)
wide_at (Closed side) m bytes = None
wide_at Gap m bytes = None
wide_at T m bytes = None
wide_at To m bytes = None

-- a letter begins an item
wide_item : (stage : Stage) (m : Machine) (b : ℕ) (bytes : ByteList) → 128 ≤ b
    → item_step stage m b bytes ≡ Some (push (Name stage) (fresh m) bytes)
unfolding item_step begin_item_step
wide_item stage m b bytes wide =
    rw (
      wide_letter (Name stage) b wide,
      no_blank b wide,
      off b 40 wide (omega arith),
      off b 41 wide (omega arith),
      off b 33 wide (omega arith),
      off b 45 wide (omega arith),
      off b 43 wide (omega arith),
      off b 42 wide (omega arith),
      off b 34 wide (omega arith),
      off b 91 wide (omega arith),
      off b 123 wide (omega arith),
      off b 92 wide (omega arith),
    ) refl

-- one behind a star
wide_star : (field : Option ByteList) (m : Machine) (b : ℕ) (bytes : ByteList) → 128 ≤ b
    → star_step field m b bytes ≡ star_wide field m bytes
wide_star None m b bytes wide = refl
wide_star (Some field) m b bytes wide =
    wide_item Behind (end_item (on_field field test.Present) m) b bytes wide

-- one behind a colon
wide_test : (m : Machine) (b : ℕ) (bytes : ByteList) → 128 ≤ b
    → test_step m b bytes ≡ Some (push Word (fresh m) bytes)
unfolding test_step
wide_test m b bytes wide =
    rw (
      wide_letter Word b wide,
      no_blank b wide,
      off b 42 wide (omega arith),
      off b 34 wide (omega arith),
      off b 91 wide (omega arith),
      off b 123 wide (omega arith),
      off b 45 wide (omega arith),
      off b 40 wide (omega arith),
      off b 43 wide (omega arith),
      off b 92 wide (omega arith),
    ) refl

-- it is so at each place
wide_step : (place : Place) (m : Machine) (b : ℕ) (bytes : ByteList) → 128 ≤ b
    → step_at place m b bytes ≡ wide_at place m bytes
wide_step (Item stage) m b bytes wide = wide_item stage m b bytes wide
wide_step Star m b bytes wide =
    rw (off b 58 wide (omega arith)) (wide_star m.field m b bytes wide)
wide_step Colon m b bytes wide = rw (off b 42 wide (omega arith)) refl
wide_step (Letters kind) m b bytes wide =
    rw (wide_letter kind b wide, off b 92 wide (omega arith)) refl
wide_step (Escape kind) m b bytes wide = rw (off b 117 wide (omega arith)) refl
wide_step Tested m b bytes wide = wide_test m b bytes wide
wide_step Minus m b bytes wide = rw (off b 92 wide (omega arith), no_digit b wide) refl
wide_step MinusEscape m b bytes wide = rw (no_digit b wide) refl
wide_step (Before side) m b bytes wide =
    rw (
      wide_letter (Bare side) b wide,
      no_blank b wide,
      off b 34 wide (omega arith),
      off b 92 wide (omega arith),
    ) refl
wide_step (Closed Low) m b bytes wide = rw (no_blank b wide) refl
wide_step (Closed High) m b bytes wide =
    rw (no_blank b wide, off b 93 wide (omega arith), off b 125 wide (omega arith)) refl
wide_step Gap m b bytes wide = rw (no_blank b wide, off b 84 wide (omega arith)) refl
wide_step T m b bytes wide = rw (off b 79 wide (omega arith)) refl
wide_step To m b bytes wide = rw (no_blank b wide) refl

-- letters go on with them
letters_wide : (kind : Kind) (m : Machine) (front bytes : ByteList) → AreWide bytes
    → run (Some (push kind m front)) bytes ≡ Some (push kind m (front ++ bytes))
letters_wide kind m front [] wide = ap (λ t. Some (push kind m t)) (sym (append-nil front))
letters_wide kind m front (b ∷ bytes) wide =
    let next : step (push kind m front) b (b ∷ []) ≡ Some (push kind m (front ++ b ∷ [])) =
    wide_step (Letters kind) (push kind m front) b (b ∷ []) wide.0
    ∙ ap (λ t. Some (record m { place = Letters kind; text = t }))
    (append_assoc m.text front (b ∷ [])) in
    ap (λ o. run o bytes) next
    ∙ letters_wide kind m (front ++ b ∷ []) bytes wide.1
    ∙ ap (λ t. Some (push kind m t)) (append_assoc front (b ∷ []) bytes)

-- behind a star too
star_run : (field : Option ByteList) (m : Machine) (b : ℕ) (bytes : ByteList) → AreWide bytes
    → run (star_wide field m (b ∷ [])) bytes ≡ star_wide field m (b ∷ bytes)
star_run None m b bytes wide = refl
star_run (Some field) m b bytes wide =
    letters_wide (Name Behind) (fresh (end_item (on_field field test.Present) m)) (b ∷ []) bytes
    wide

-- the run over the bytes of one is one step over all of them
wide_run : (place : Place) (m : Machine) (b : ℕ) (bytes : ByteList) → AreWide bytes
    → run (wide_at place m (b ∷ [])) bytes ≡ wide_at place m (b ∷ bytes)
wide_run (Item stage) m b bytes wide = letters_wide (Name stage) (fresh m) (b ∷ []) bytes wide
wide_run Star m b bytes wide = star_run m.field m b bytes wide
wide_run Colon m b bytes wide = refl
wide_run (Letters kind) m b bytes wide = letters_wide kind m (b ∷ []) bytes wide
wide_run (Escape kind) m b bytes wide =
    letters_wide kind (record m { escapes = true }) (b ∷ []) bytes wide
wide_run Tested m b bytes wide =
    letters_wide Word (fresh m) (b ∷ []) bytes wide
wide_run Minus m b bytes wide = refl
wide_run MinusEscape m b bytes wide = refl
wide_run (Before side) m b bytes wide =
    letters_wide (Bare side) (fresh m) (b ∷ []) bytes wide
wide_run (Closed side) m b bytes wide = refl
wide_run Gap m b bytes wide = refl
wide_run T m b bytes wide = refl
wide_run To m b bytes wide = refl

-- whether one is taken behind a star is seen at its first byte
star_refused : (field : Option ByteList) (m : Machine) (more less : ByteList)
    → star_wide field m more ≡ None → star_wide field m less ≡ None
star_refused None m more less is = refl
star_refused (Some field) m more less is = cc

-- whether one is taken is seen there at each place
wide_refused : (place : Place) (m : Machine) (more less : ByteList) → wide_at place m more ≡ None
    → wide_at place m less ≡ None
wide_refused (Item stage) m more less is = cc
wide_refused Star m more less is = star_refused m.field m more less is
wide_refused Colon m more less is = refl
wide_refused (Letters kind) m more less is = cc
wide_refused (Escape kind) m more less is = cc
wide_refused Tested m more less is = cc
wide_refused Minus m more less is = refl
wide_refused MinusEscape m more less is = refl
wide_refused (Before side) m more less is = cc
wide_refused (Closed side) m more less is = refl
wide_refused Gap m more less is = refl
wide_refused T m more less is = refl
wide_refused To m more less is = refl

-- ---- characters

-- a character's bytes, of which the first is refused if the character is
pub record Bytes (m : Machine) (c : ℕ) : Type 0 where
  pub first : ℕ
  pub others : ByteList
  pub are : encode_utf8 c ≡ first ∷ others
  pub run_is : run (Some m) (encode_utf8 c) ≡ step m c (encode_utf8 c)
  pub refused : step m c (encode_utf8 c) ≡ None → step m first (first ∷ []) ≡ None

-- bytes that aren't none
cons_of : (bytes : ByteList) → 0 < length bytes
    → (b : ℕ) × (others : ByteList) × (bytes ≡ b ∷ others)
cons_of [] some = absurd (omega arith)
cons_of (b ∷ bytes) some = (b, bytes, refl)

-- a character past ASCII is read so
wide_char : (m : Machine) (c : ℕ) (b : ℕ) (others : ByteList) → 128 ≤ c → AreWide (b ∷ others)
    → encode_utf8 c ≡ b ∷ others → Bytes m c
wide_char m c b others wide are is = record {
  first = b;
  others = others;
  are = is;
  run_is =
      ap (run (Some m)) is
      ∙ ap (λ o. run o others) (wide_step m.place m b (b ∷ []) are.0)
      ∙ wide_run m.place m b others are.1
      ∙ sym (wide_step m.place m c (b ∷ others) wide)
      ∙ ap (step m c) (sym is);
  refused = λ none.
      wide_step m.place m b (b ∷ []) are.0
      ∙ wide_refused m.place m (encode_utf8 c) (b ∷ [])
      (sym (wide_step m.place m c (encode_utf8 c) wide) ∙ none);
}

-- so is each character
pub bytes_of : (m : Machine) (c : ℕ) → Bytes m c
bytes_of m c = ⊎_elim
    (λ (low : c < 128). let is = encode_ascii c low in record {
      first = c;
      others = [];
      are = is;
      run_is = ap (run (Some m)) is ∙ run-nothing (step m c (c ∷ [])) ∙ ap (step m c) (sym is);
      refused = λ none. ap (step m c) (sym is) ∙ none;
    })
    (λ (wide : 128 ≤ c).
    let some : 0 < length (encode_utf8 c) = omega (arith, length-encode c, len_utf8_bounds c) in
    let split = cons_of (encode_utf8 c) some in
    wide_char m c split.0 split.1 wide (subst AreWide split.2 (wide_bytes c wide)) split.2)
    (cases_lt c 128)
