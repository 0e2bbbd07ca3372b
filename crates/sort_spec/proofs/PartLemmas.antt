-- The readings of runs of bytes, of words and of ends are right.
use Rattle.std.proofs.Common.{◌≡◌, ◌≢◌, ℕ, suc, ◌+◌, [], ◌∷◌, ◌++◌, length, take, drop}
use Rattle.std.proofs.Common.{Bool, true, false, ◌==◌, if◌then◌else◌, refl, sym, ◌∙◌, ap, subst}
use Rattle.std.proofs.Common.{arith, eq-eqb}
use Rattle.std.specs.Char.{to_ascii_lowercase}
use Rattle.std.specs.Str.{str_to_ascii_lowercase}
use Rattle.std.specs.List.{prefix_len}
use Rattle.std.proofs.lemmas.Bool.{eqb-true}
use Rattle.std.proofs.lemmas.List.{take-append-drop, append-nil}
use Rattle.std.proofs.lemmas.List.Folds.{length-prefix_len}
use Rattle.tuple_values.specs.Document.{ByteList}
use Rattle.sort_spec.specs.Grammar.{is_blank, AreAll, GoesOn}
use Rattle.sort_spec.specs.Reading.{Reading, stuck, behind, past, unless_none, past_some}
use Rattle.sort_spec.specs.Reading.{ended, closed, letters}
use Rattle.sort_spec.proofs.RightLemmas.{IsRight, Alike, behind_right, alike_right, stuck_right}

-- the first byte fails the test, where there is one
abbrev pub Apart : (ℕ → Bool) → ByteList → Type 0
Apart test [] = Unit {0}
Apart test (b ∷ bytes) = test b ≡ false

-- bytes that pass, and then what says the value
pub record Past {V : Type 0} (test : ℕ → Bool) (Says : ByteList → ByteList → V → Type 0)
    (bytes : ByteList) (value : V) : Type 0 where
  pub front : ByteList
  pub rest : ByteList
  pub passing : AreAll test front
  pub printed : bytes ≡ front ++ rest
  pub says : Says front rest value

-- the same where one at least passes
abbrev pub PastSome : {V : Type 0} → (ℕ → Bool) → (ByteList → ByteList → V → Type 0)
    → ByteList → V → Type 0
PastSome test Says = Past test (λ front rest value. (front ≢ []) × Says front rest value)

-- blanks to the end, and the value
abbrev pub Closed : {V : Type 0} → V → ByteList → V → Type 0
Closed value bytes other = AreAll is_blank bytes × (other ≡ value)

-- the letters of a word in any case, and then what says the value
pub record Letters {V : Type 0} (word : ByteList) (Says : ByteList → V → Type 0)
    (bytes : ByteList) (value : V) : Type 0 where
  pub written : ByteList
  pub rest : ByteList
  pub same : str_to_ascii_lowercase written ≡ word
  pub printed : bytes ≡ written ++ rest
  pub says : Says rest value

-- what begins as bytes that are apart is apart
alike_apart : (test : ℕ → Bool) (rest tail : ByteList) → Alike rest tail → Apart test rest
    → Apart test tail
alike_apart test [] [] alike apart = tt
alike_apart test [] (c ∷ tail) alike apart = absurd alike
alike_apart test (b ∷ rest) [] alike apart = absurd alike
alike_apart test (b ∷ rest) (c ∷ tail) alike apart = ap test (sym alike) ∙ apart

-- bytes are cut in one way into those that pass and others
cut_unique : (test : ℕ → Bool) (front other rest tail : ByteList)
    → AreAll test front → AreAll test other → Apart test rest → Apart test tail
    → front ++ rest ≡ other ++ tail → (front ≡ other) × (rest ≡ tail)
cut_unique test [] [] rest tail a b r t e = (refl, e)
cut_unique test [] (c ∷ other) rest tail a b r t e =
    let P : ByteList → Type 0 = λ bytes. Apart test bytes in
    let fails : test c ≡ false = subst P e r in
    let passes : test c ≡ true = b.0 in absurd (cc)
cut_unique test (b ∷ front) [] rest tail a b' r t e =
    let P : ByteList → Type 0 = λ bytes. Apart test bytes in
    let fails : test b ≡ false = subst P (sym e) t in
    let passes : test b ≡ true = a.0 in absurd (cc)
cut_unique test (b ∷ front) (c ∷ other) rest tail a b' r t e =
    let head : b ≡ c = cc in
    let later : front ++ rest ≡ other ++ tail = cc in
    let (same, ends) = cut_unique test front other rest tail a.1 b'.1 r t later in (cc, ends)

-- the longest front that passes passes, and the rest is apart
passes_by : (test : ℕ → Bool) (b : ℕ) (bytes : ByteList) (t : Bool) → test b ≡ t
    → AreAll test (take (prefix_len test bytes) bytes)
    → AreAll test (take (if t then 1 + prefix_len test bytes else 0) (b ∷ bytes))
passes_by test b bytes true is later =
    let more : 1 + prefix_len test bytes ≡ suc (prefix_len test bytes) = omega arith in
    rw more (is, later)
passes_by test b bytes false is later = tt

-- so it does, for all bytes
passes : (test : ℕ → Bool) (bytes : ByteList) → AreAll test (take (prefix_len test bytes) bytes)
passes test [] = tt
passes test (b ∷ bytes) = passes_by test b bytes (test b) refl (passes test bytes)

-- what stands behind it begins with another byte
apart_by : (test : ℕ → Bool) (b : ℕ) (bytes : ByteList) (t : Bool) → test b ≡ t
    → Apart test (drop (prefix_len test bytes) bytes)
    → Apart test (drop (if t then 1 + prefix_len test bytes else 0) (b ∷ bytes))
apart_by test b bytes true is later =
    let more : 1 + prefix_len test bytes ≡ suc (prefix_len test bytes) = omega arith in
    rw more later
apart_by test b bytes false is later = is

-- for all bytes
apart_rest : (test : ℕ → Bool) (bytes : ByteList)
    → Apart test (drop (prefix_len test bytes) bytes)
apart_rest test [] = tt
apart_rest test (b ∷ bytes) = apart_by test b bytes (test b) refl (apart_rest test bytes)

-- a run that is read as the longest front that passes
module _ {V : Type 0} (test : ℕ → Bool) (Says : ByteList → ByteList → V → Type 0)
    (apart : (front rest : ByteList) (value : V) → Says front rest value → Apart test rest) where
  -- is right where what follows it is
  run_right : (front rest : ByteList) → AreAll test front → Apart test rest
      → (reading : Reading V) → IsRight (Says front) rest reading
      → IsRight (Past test Says) (front ++ rest) (behind (length front) reading)
  run_right front rest passing ends reading right =
      behind_right (Past test Says) (Says front) front rest to from reading right where
        to : (tail : ByteList) (value : V) → Alike rest tail → Past test Says (front ++ tail) value
            → Says front tail value
        to tail value alike p =
            let (same, end) =
            cut_unique test p.front front p.rest tail p.passing passing
            (apart p.front p.rest value p.says) (alike_apart test rest tail alike ends)
            (sym p.printed) in
            let P : ByteList → Type 0 = λ f. Says f p.rest value in
            let Q : ByteList → Type 0 = λ r. Says front r value in
            subst Q end (subst P same p.says)

        from : (tail : ByteList) (value : V) → Says front tail value
            → Past test Says (front ++ tail) value
        from tail value says = record {
          front = front;
          rest = tail;
          passing = passing;
          printed = refl;
          says = says;
        }

  -- the run of the bytes themselves
  module _ (next : ByteList → ByteList → Reading V) (bytes : ByteList) where
    -- the longest front is such a run
    pub past_right :
        IsRight (Says (take (prefix_len test bytes) bytes)) (drop (prefix_len test bytes) bytes)
        (next (take (prefix_len test bytes) bytes) (drop (prefix_len test bytes) bytes))
        → IsRight (Past test Says) bytes (past test next bytes)
    past_right right =
        let n = prefix_len test bytes in
        let reading = next (take n bytes) (drop n bytes) in
        let P : ℕ → Type 0 =
        λ k. IsRight (Past test Says) (take n bytes ++ drop n bytes) (behind k reading) in
        let Q : ByteList → Type 0 = λ text. IsRight (Past test Says) text (behind n reading) in
        subst Q (take-append-drop n bytes)
        (subst P (length-prefix_len test bytes)
        (run_right (take n bytes) (drop n bytes) (passes test bytes) (apart_rest test bytes)
        reading right))

module _ {V : Type 0} (test : ℕ → Bool) (Says : ByteList → ByteList → V → Type 0)
    (apart : (front rest : ByteList) (value : V) → Says front rest value → Apart test rest)
    (begins : GoesOn (PastSome test Says) []) where
  -- where nothing passes there is no such run
  none_passes : (rest text : ByteList) (value : V) → Apart test rest → Alike rest text
      → (front tail : ByteList) → AreAll test front → front ≢ [] → text ≡ front ++ tail → ⊥
  none_passes rest text value ends alike [] tail passing some printed = some refl
  none_passes rest text value ends alike (c ∷ front) tail passing some printed =
      let P : ByteList → Type 0 = λ bytes. Apart test bytes in
      let fails : test c ≡ false = subst P printed (alike_apart test rest text alike ends) in
      let passes : test c ≡ true = passing.0 in cc

  -- a run of one byte at least is right where what follows it is
  run_some_right : (front rest : ByteList) → AreAll test front → Apart test rest
      → (reading : Reading V) → IsRight (Says front) rest reading
      → IsRight (PastSome test Says) (front ++ rest)
      (behind (length front) (unless_none front reading))
  run_some_right [] rest passing ends reading right =
      stuck_right (PastSome test Says) rest begins
      (λ text value alike p.
      none_passes rest text value ends alike p.front p.rest p.passing p.says.0 p.printed)
  run_some_right (b ∷ front) rest passing ends reading right =
      let Some = λ (f r : ByteList) (value : V). (f ≢ []) × Says f r value in
      run_right test Some (λ f r value says. apart f r value says.1) (b ∷ front) rest passing ends
      reading
      (alike_right (Some (b ∷ front)) (Says (b ∷ front)) rest (λ text value alike says. says.1)
      (λ text value says. (λ none. cc, says)) reading right)

  module _ (next : ByteList → ByteList → Reading V) (bytes : ByteList) where
    -- the longest front is such a run, or the bytes stick
    pub past_some_right :
        IsRight (Says (take (prefix_len test bytes) bytes)) (drop (prefix_len test bytes) bytes)
        (next (take (prefix_len test bytes) bytes) (drop (prefix_len test bytes) bytes))
        → IsRight (PastSome test Says) bytes (past_some test next bytes)
    past_some_right right =
        let n = prefix_len test bytes in
        let front = take n bytes in
        let reading = next front (drop n bytes) in
        let P : ℕ → Type 0 =
        λ k. IsRight (PastSome test Says) (front ++ drop n bytes)
        (behind k (unless_none front reading)) in
        let Q : ByteList → Type 0 =
        λ text. IsRight (PastSome test Says) text (behind n (unless_none front reading)) in
        subst Q (take-append-drop n bytes)
        (subst P (length-prefix_len test bytes)
        (run_some_right front (drop n bytes) (passes test bytes) (apart_rest test bytes) reading
        right))

-- the end of the bytes
abbrev End : {V : Type 0} → V → ByteList → V → Type 0
End value rest other = (rest ≡ []) × (other ≡ value)

module _ {V : Type 0} (value : V) where
  -- more bytes are no end
  more_than_end : (b : ℕ) (rest text : ByteList) (other : V) → Alike (b ∷ rest) text
      → ¬ (End value text other)
  more_than_end b rest [] other alike says = alike
  more_than_end b rest (c ∷ text) other alike says = let none = says.0 in cc

  -- the reading of the end is right
  ended_right : (rest : ByteList) → IsRight (End value) rest (ended value rest)
  ended_right [] = ((refl, refl), λ other says. says.1)
  ended_right (b ∷ rest) =
      stuck_right (End value) (b ∷ rest) ([], value, (refl, refl)) (more_than_end b rest)

  -- the end is apart from blanks
  end_apart : (front rest : ByteList) (other : V) → End value rest other → Apart is_blank rest
  end_apart front rest other says =
      let P : ByteList → Type 0 = λ bytes. Apart is_blank bytes in subst P (sym says.0) tt

  -- blanks to the end
  pub closed_right : (bytes : ByteList) → IsRight (Closed value) bytes (closed value bytes)
  closed_right bytes =
      alike_right (Closed value) (Past is_blank (λ blanks. End value)) bytes
      (λ text other alike says. record {
        front = text;
        rest = [];
        passing = says.0;
        printed = sym (append-nil text);
        says = (refl, says.1);
      })
      (λ text other p.
      let whole : p.front ≡ text =
      sym (append-nil p.front) ∙ ap (λ rest. p.front ++ rest) (sym p.says.0) ∙ sym p.printed in
      let P : ByteList → Type 0 = λ bytes. AreAll is_blank bytes in
      (subst P whole p.passing, p.says.1))
      (closed value bytes)
      (past_right is_blank (λ blanks. End value) end_apart (λ blanks rest. ended value rest) bytes
      (ended_right (drop (prefix_len is_blank bytes) bytes)))

module _ {V : Type 0} (Says : ByteList → V → Type 0) (next : ByteList → Reading V)
    (begins : GoesOn Says []) (right : (bytes : ByteList) → IsRight Says bytes (next bytes)) where
  -- no letter more
  no_letter : (rest : ByteList) (value : V) → Letters [] Says rest value → Says rest value
  no_letter rest value l = no_letter_by rest value l.written l.rest l.same l.printed l.says where
    no_letter_by : (rest : ByteList) (value : V) (written tail : ByteList)
        → str_to_ascii_lowercase written ≡ [] → rest ≡ written ++ tail → Says tail value
        → Says rest value
    no_letter_by rest value [] tail same printed says =
        let P : ByteList → Type 0 = λ bytes. Says bytes value in subst P (sym printed) says
    no_letter_by rest value (c ∷ written) tail same printed says = absurd (cc)

  -- one letter and the others
  first_letter : (letter b : ℕ) (word rest : ByteList) (value : V)
      → Letters (letter ∷ word) Says (b ∷ rest) value
      → (to_ascii_lowercase b ≡ letter) × Letters word Says rest value
  first_letter letter b word rest value l =
      by_written rest value l.written l.rest l.same l.printed l.says where
        by_written : (rest : ByteList) (value : V) (written tail : ByteList)
            → str_to_ascii_lowercase written ≡ letter ∷ word → b ∷ rest ≡ written ++ tail
            → Says tail value
            → (to_ascii_lowercase b ≡ letter) × Letters word Says rest value
        by_written rest value [] tail same printed says = absurd (cc)
        by_written rest value (c ∷ written) tail same printed says =
            let head : b ≡ c = cc in
            let low : to_ascii_lowercase c ≡ letter = cc in
            let later : str_to_ascii_lowercase written ≡ word = cc in
            let behind_it : rest ≡ written ++ tail = cc in (
              ap to_ascii_lowercase head ∙ low,
              record {
                written = written;
                rest = tail;
                same = later;
                printed = behind_it;
                says = says;
              },
            )

  -- no word is in no bytes
  no_bytes : (letter : ℕ) (word text : ByteList) (value : V) → text ≡ []
      → ¬ (Letters (letter ∷ word) Says text value)
  no_bytes letter word text value none l = by_written l.written l.same (sym none ∙ l.printed) where
    by_written : (written : ByteList) → str_to_ascii_lowercase written ≡ letter ∷ word
        → [] ≡ written ++ l.rest → ⊥
    by_written [] same printed = cc
    by_written (c ∷ written) same printed = cc

  -- some text begins with the word
  letters_begin : (word : ByteList) → str_to_ascii_lowercase word ≡ word
      → GoesOn (Letters word Says) []
  letters_begin word low =
      let (more, value, says) = begins in (
        word ++ more,
        value,
        record { written = word; rest = more; same = low; printed = refl; says = says },
      )

  -- what begins as no bytes is none
  alike_none : (text : ByteList) → Alike [] text → text ≡ []
  alike_none [] alike = refl
  alike_none (c ∷ text) alike = absurd alike

  -- another letter begins none
  other_letter : (letter b : ℕ) (word bytes text : ByteList) (value : V)
      → (to_ascii_lowercase b == letter) ≡ false → Alike (b ∷ bytes) text
      → ¬ (Letters (letter ∷ word) Says text value)
  other_letter letter b word bytes [] value other alike l = alike
  other_letter letter b word bytes (c ∷ text) value other alike l =
      let (low, later) = first_letter letter c word text value l in
      let same = eq-eqb (to_ascii_lowercase b) letter (ap to_ascii_lowercase alike ∙ low) in cc

  -- one letter that is told, and the others
  letters_by : (letter b : ℕ) (word bytes : ByteList) (test : Bool)
      → (to_ascii_lowercase b == letter) ≡ test
      → str_to_ascii_lowercase (letter ∷ word) ≡ letter ∷ word
      → IsRight (Letters word Says) bytes (letters word next bytes)
      → IsRight (Letters (letter ∷ word) Says) (b ∷ bytes)
      (if test then behind 1 (letters word next bytes) else stuck 0)
  letters_by letter b word bytes true is low later =
      let small : to_ascii_lowercase b ≡ letter = eqb-true (to_ascii_lowercase b) letter is in
      behind_right (Letters (letter ∷ word) Says) (Letters word Says) (b ∷ []) bytes
      (λ rest value alike l. (first_letter letter b word rest value l).1)
      (λ rest value l. record {
        written = b ∷ l.written;
        rest = l.rest;
        same = ap (λ c. c ∷ str_to_ascii_lowercase l.written) small ∙ ap (λ w. letter ∷ w) l.same;
        printed = ap (λ t. b ∷ t) l.printed;
        says = l.says;
      })
      (letters word next bytes) later
  letters_by letter b word bytes false is low later =
      stuck_right (Letters (letter ∷ word) Says) (b ∷ bytes) (letters_begin (letter ∷ word) low)
      (λ text value alike l. other_letter letter b word bytes text value is alike l)

  -- the letters of a word and what follows it
  pub letters_right : (word : ByteList) → str_to_ascii_lowercase word ≡ word → (bytes : ByteList)
      → IsRight (Letters word Says) bytes (letters word next bytes)
  letters_right [] low bytes =
      alike_right (Letters [] Says) Says bytes (λ text value alike l. no_letter text value l)
      (λ text value says. record {
        written = [];
        rest = text;
        same = refl;
        printed = refl;
        says = says;
      })
      (next bytes) (right bytes)
  letters_right (letter ∷ word) low [] =
      stuck_right (Letters (letter ∷ word) Says) [] (letters_begin (letter ∷ word) low)
      (λ text value alike l. no_bytes letter word text value (alike_none text alike) l)
  letters_right (letter ∷ word) low (b ∷ bytes) =
      let later : str_to_ascii_lowercase word ≡ word = cc in
      letters_by letter b word bytes (to_ascii_lowercase b == letter) refl low
      (letters_right word later bytes)

-- what begins with a byte of one kind is apart from another kind
pub all_apart : (test other : ℕ → Bool) → ((b : ℕ) → test b ≡ true → other b ≡ false)
    → (bytes : ByteList) → AreAll test bytes → Apart other bytes
all_apart test other contrary [] all = tt
all_apart test other contrary (b ∷ bytes) all = contrary b all.0

-- so is a run of one at least
some_apart_by : (test other : ℕ → Bool) → ((b : ℕ) → test b ≡ true → other b ≡ false)
    → (front rest : ByteList) → front ≢ [] → AreAll test front → Apart other (front ++ rest)
some_apart_by test other contrary [] rest some all = absurd (some refl)
some_apart_by test other contrary (b ∷ front) rest some all = contrary b all.0

-- and what begins with such a run
pub some_apart : {V : Type 0} (test other : ℕ → Bool)
    → ((b : ℕ) → test b ≡ true → other b ≡ false) → (Says : ByteList → ByteList → V → Type 0)
    → (bytes : ByteList) (value : V) → PastSome test Says bytes value → Apart other bytes
some_apart test other contrary Says bytes value p =
    let P : ByteList → Type 0 = λ text. Apart other text in
    subst P (sym p.printed) (some_apart_by test other contrary p.front p.rest p.says.0 p.passing)
