-- What is read as a test was laid out as one.
use Rattle.std.proofs.Common.{◌≡◌, ℕ, ◌<◌, List, [], ◌∷◌, ◌++◌, length, Bool, true, false, Option}
use Rattle.std.proofs.Common.{Some, None, refl, ap, sym, subst, ◌∙◌, append_assoc}
use Rattle.std.specs.Prelude.{◌==◌, if◌then◌else◌, nat_lt}
use Rattle.std.proofs.lemmas.Bool.{eqb-true, or_from, ltb-true}
use Rattle.tuple_values.specs.Document.{ByteList}
use Rattle.query_syntax.specs.Letters.{is_blank, AreBlank, Letter, plain, escaped, letters_print}
use Rattle.query_syntax.specs.Letters.{letters_text, is_sign, is_digit, is_operator}
use Rattle.query_syntax.specs.Words.{IsWord, BeginsWord, BeginsNumber, NoLetter}
use Rattle.query_syntax.specs.Ranges.{opening}
use Rattle.query_syntax.specs.Tests.{TestLayout, word, prefix, number, quote, star, range}
use Rattle.query_syntax.specs.Tests.{test_print, IsTest, test_says, IsUnsigned, NoStar, TestEnds}
use Rattle.query_syntax.specs.Grammar.{level_limit}
use Rattle.query_syntax.specs.Machine.{Machine, ready, begin, push, takes}
use Rattle.query_syntax.specs.Items.{end_test, open_group}
use Rattle.query_syntax.specs.Steps.{step, end_step}
use Rattle.query_syntax.specs.ItemSteps.{test_step, word_step, item_step}
use Rattle.query_syntax.specs.Reading.{all_read}
use Rattle.query_syntax.specs.Tree.{ClauseTree}
use Rattle.query_syntax.specs.declared.query.Role.TheVariants.{Optional}
use Rattle.query_syntax.specs.declared.query.Test.TheVariants as test
use Rattle.query_syntax.specs.declared.open_lists.Outside.TheVariants.{Other}
use Rattle.query_syntax.specs.declared.place.Side.TheVariants.{Low}
use Rattle.query_syntax.specs.declared.place.Stage.TheVariants as stage
use Rattle.query_syntax.specs.declared.place.Kind.{Kind}
use Rattle.query_syntax.specs.declared.place.Kind.TheVariants.{Word, Number, Quote}
use Rattle.query_syntax.specs.declared.place.Place.{Place}
use Rattle.query_syntax.specs.declared.place.Place.TheVariants.{Letters}
use Rattle.query_syntax.specs.declared.place.Place.TheVariants.{Tested, Minus, MinusEscape}
use Rattle.query_syntax.specs.declared.place.Place.TheVariants.{Before}
use Rattle.query_syntax.proofs.ClassLemmas.{digit_word, digit_no_u}
use Rattle.query_syntax.proofs.LetterLemmas.{at, fresh, after_letters}
use Rattle.query_syntax.proofs.SpanLemmas.{Asks, nowhere, either, only_true, only_false, Span}
use Rattle.query_syntax.proofs.SpanLemmas.{span_plain, span_escaped, span, span_begun}
use Rattle.query_syntax.proofs.SpanLemmas.{span_ends, Stops, First, first_is}
use Rattle.query_syntax.proofs.RangeLemmas.{range_sound}

-- ---- the byte behind letters

-- the bytes lead on by their first byte, or by a blank where the text ends
abbrev pub After : (ℕ → Option Machine) → ByteList → List ClauseTree → Type 0
After f [] clauses = all_read (f 32) ≡ Some clauses
After f (b ∷ bytes) clauses = Asks (f b) bytes clauses

-- they do behind letters
pub letters_after : (kind : Kind) (m : Machine) (rest : ByteList) (clauses : List ClauseTree)
    → takes kind 32 ≡ false → Stops kind rest → Asks (Some (at (Letters kind) m)) rest clauses
    → After (λ b. end_step kind (at (Letters kind) m) b (b ∷ [])) rest clauses
letters_after kind m [] clauses none stops h = rw none at h
letters_after kind m (b ∷ rest) clauses none stops h =
    span_ends kind m b rest clauses stops (λ g. g) h

-- they do from a machine
pub step_after : (m : Machine) (rest : ByteList) (clauses : List ClauseTree)
    → Asks (Some m) rest clauses → After (λ b. step m b (b ∷ [])) rest clauses
step_after m [] clauses h = h
step_after m (b ∷ rest) clauses h = h

-- and the other way round
pub after_step : (m : Machine) (rest : ByteList) (clauses : List ClauseTree)
    → After (λ b. step m b (b ∷ [])) rest clauses → Asks (Some m) rest clauses
after_step m [] clauses h = h
after_step m (b ∷ rest) clauses h = h

-- nothing leads on from nowhere
pub after_none : {G : Type 0} (rest : ByteList) (clauses : List ClauseTree)
    → After (λ b. None) rest clauses → G
after_none [] clauses h = cc
after_none (b ∷ rest) clauses h = nowhere rest clauses h

-- what follows from both answers to a test follows
pub after_either : {G : Type 0} (t : Bool) (f g : ℕ → Option Machine) (rest : ByteList)
    (clauses : List ClauseTree)
    → (t ≡ true → After f rest clauses → G) → (t ≡ false → After g rest clauses → G)
    → After (λ b. if t then f b else g b) rest clauses → G
after_either true f g rest clauses x y h = x refl h
after_either false f g rest clauses x y h = y refl h

-- the bytes don't begin with this one
abbrev pub NotFirst : ℕ → ByteList → Type 0
NotFirst n [] = Unit {0}
NotFirst n (b ∷ bytes) = (b == n) ≡ false

-- what follows where they do and where they don't follows; a blank is another byte
pub after_byte : {G : Type 0} (n : ℕ) (f g : ℕ → Option Machine) (rest : ByteList)
    (clauses : List ClauseTree) → (32 == n) ≡ false
    → ((more : ByteList) → rest ≡ n ∷ more → Asks (f n) more clauses → G)
    → (NotFirst n rest → After g rest clauses → G)
    → After (λ b. if b == n then f b else g b) rest clauses → G
after_byte n f g [] clauses other x y h = y tt (rw other at h)
after_byte n f g (b ∷ rest) clauses other x y h =
    either (b == n) (f b) (g b) rest clauses
    (λ is k. x rest (ap (λ d. d ∷ rest) (eqb-true b n is))
    (subst (λ (d : ℕ). Asks (f d) rest clauses) (eqb-true b n is) k))
    (λ no k. y no k) h

-- ---- tests

-- a test, and what is left
pub record TestPart (m : Machine) (bytes : ByteList) (clauses : List ClauseTree) : Type 0 where
  pub test : TestLayout
  pub rest : ByteList
  pub allowed : IsTest test
  pub ends : TestEnds test rest
  pub is : bytes ≡ test_print test ++ rest
  pub reads : Asks (Some (end_test (test_says test) m)) rest clauses

-- one that may stand without a field
pub record BarePart (m : Machine) (bytes : ByteList) (clauses : List ClauseTree) : Type 0 where
  pub part : TestPart m bytes clauses
  pub unsigned : IsUnsigned part.test

-- ---- words

-- letters that begin with no sign begin a word
pub begins_word : (b : ℕ) (letters : List Letter) → First b letters → is_sign b ≡ false
    → BeginsWord letters
begins_word b [] first is = first
begins_word b (plain d ∷ letters) first is = rw first is
begins_word b (escaped d ∷ letters) first is = tt

-- what stops the letters of a word doesn't go on with it
pub stops_letter : (rest : ByteList) → Stops Word rest → NoLetter rest
stops_letter [] stops = tt
stops_letter (b ∷ rest) stops = stops

-- what doesn't begin with a star
not_star : (rest : ByteList) → NotFirst 42 rest → NoStar rest
not_star [] other = tt
not_star (b ∷ rest) other = other

-- a word that is a test, whose letters are read
pub word_part : (m : Machine) (place : Place) (escapes : Bool) (letters : List Letter)
    (bytes rest : ByteList) (clauses : List ClauseTree) → IsWord letters
    → bytes ≡ letters_print letters ++ rest → Stops Word rest
    → After (λ b. word_step (record m
    { place = place; text = letters_text letters; escapes = escapes }) b (b ∷ [])) rest clauses
    → BarePart m bytes clauses
word_part m place escapes letters bytes rest clauses allowed is stops h =
    after_byte 42 (λ b. Some (end_test (test.Prefix (letters_text letters)) m))
    (λ b. item_step stage.Behind (end_test (test.Word (letters_text letters)) m) b (b ∷ [])) rest
    clauses refl
    (λ more first k. record {
      part = record {
        test = prefix letters;
        rest = more;
        allowed = allowed;
        ends = tt;
        is = is ∙ ap (λ t. letters_print letters ++ t) first
            ∙ sym (append_assoc (letters_print letters) (42 ∷ []) more);
        reads = k;
      };
      unsigned = tt;
    })
    (λ no k. record {
      part = record {
        test = word letters;
        rest = rest;
        allowed = allowed;
        ends = (stops_letter rest stops, not_star rest no);
        is = is;
        reads = after_step (end_test (test.Word (letters_text letters)) m) rest clauses k;
      };
      unsigned = tt;
    }) h

-- a word behind the colon
word_by : (m : Machine) (b : ℕ) (bytes : ByteList) (clauses : List ClauseTree)
    (s : Span Word (fresh m) (b ∷ bytes) clauses) → BeginsWord s.letters
    → TestPart m (b ∷ bytes) clauses
word_by m b bytes clauses s begins =
    let last = after_letters Word (fresh m) s.letters in
    after_either (is_operator last.escapes last.text) (λ d. None)
    (λ d. word_step last d (d ∷ [])) s.rest clauses
    (λ _ g. after_none s.rest clauses g)
    (λ whole g. (word_part m (Letters Word) last.escapes s.letters (b ∷ bytes) s.rest clauses
    (record { are_letters = s.are; begins = begins; no_operator = whole }) s.is s.stops g).part)
    (letters_after Word last s.rest clauses refl s.stops s.reads)

-- a number, whose letters are read
number_by : (m : Machine) (bytes : ByteList) (clauses : List ClauseTree)
    (s : Span Number (record m { text = 45 ∷ []; escapes = false }) bytes clauses)
    → BeginsNumber s.letters → TestPart m (45 ∷ bytes) clauses
number_by m bytes clauses s begins =
    let last = after_letters Number (record m { text = 45 ∷ []; escapes = false }) s.letters in
    record {
      test = number s.letters;
      rest = s.rest;
      allowed = record { are_letters = s.are; begins = begins };
      ends = stops_letter s.rest (number_stops s.rest s.stops);
      is = ap (λ t. 45 ∷ t) s.is;
      reads = after_step (end_test (test.Word last.text) last) s.rest clauses
          (letters_after Number last s.rest clauses refl s.stops s.reads);
    }
  where
    number_stops : (rest : ByteList) → Stops Number rest → Stops Word rest
    number_stops [] stops = tt
    number_stops (d ∷ rest) stops = stops

-- an escaped digit behind a minus
minus_escaped : (m : Machine) (bytes : ByteList) (clauses : List ClauseTree)
    → Asks (Some (at MinusEscape (record m { text = 45 ∷ []; escapes = true }))) bytes clauses
    → TestPart m (45 ∷ 92 ∷ bytes) clauses
unfolding span_escaped
minus_escaped m [] clauses h = absurd cc
minus_escaped m (b ∷ bytes) clauses h =
    let minus = record m { text = 45 ∷ []; escapes = false } in
    only_true (is_digit b)
    (Some (push Number (record m { text = 45 ∷ []; escapes = true }) (b ∷ []))) bytes clauses
    (λ digit g. let s = span_escaped Number minus b bytes clauses (digit_no_u b digit)
    (span Number (record m { text = 45 ∷ b ∷ []; escapes = true }) bytes clauses g) in
    number_by m (92 ∷ b ∷ bytes) clauses s digit) h

-- a number behind a minus
minus_sound : (m : Machine) (bytes : ByteList) (clauses : List ClauseTree)
    → Asks (Some (at Minus (record m { text = 45 ∷ []; escapes = false }))) bytes clauses
    → TestPart m (45 ∷ bytes) clauses
unfolding span_plain
minus_sound m [] clauses h = absurd cc
minus_sound m (b ∷ bytes) clauses h =
    let minus = record m { text = 45 ∷ []; escapes = false } in
    let by_digit = if is_digit b then Some (push Number minus (b ∷ [])) else None in
    either (b == 92) (Some (at MinusEscape (record m { text = 45 ∷ []; escapes = true })))
    by_digit bytes clauses
    (λ slash g. subst (λ (x : ℕ). TestPart m (45 ∷ x ∷ bytes) clauses) (sym (eqb-true b 92 slash))
    (minus_escaped m bytes clauses g))
    (λ other g. only_true (is_digit b) (Some (push Number minus (b ∷ []))) bytes clauses
    (λ digit k. let s = span_plain Number minus b bytes clauses (digit_word b digit)
    (span Number (record m { text = 45 ∷ b ∷ []; escapes = false }) bytes clauses k) in
    number_by m (b ∷ bytes) clauses s digit) g) h

-- ---- quoted texts and ranges

-- a quoted text, whose letters are read
quote_by : (m : Machine) (bytes : ByteList) (clauses : List ClauseTree) (rest : ByteList)
    (s : Span Quote (fresh m) bytes clauses) → s.rest ≡ rest → BarePart m (34 ∷ bytes) clauses
quote_by m bytes clauses [] s is =
    let none = subst (λ t. Asks (Some (after_letters Quote (fresh m) s.letters)) t clauses)
    is s.reads in absurd cc
quote_by m bytes clauses (d ∷ rest) s is =
    let last = after_letters Quote (fresh m) s.letters in
    let reads = subst (λ t. Asks (Some last) t clauses) is s.reads in
    let stops = subst (Stops Quote) is s.stops in
    span_ends Quote last d rest clauses stops
    (λ g. only_true (d == 34) (Some (end_test (test.Word last.text) last)) rest clauses
    (λ closed k. record {
      part = record {
        test = quote s.letters;
        rest = rest;
        allowed = s.are;
        ends = tt;
        is =
            ap (λ t. 34 ∷ t)
            (s.is ∙ ap (λ t. letters_print s.letters ++ t)
            (is ∙ ap (λ x. x ∷ rest) (eqb-true d 34 closed))
            ∙ sym (append_assoc (letters_print s.letters) (34 ∷ []) rest));
        reads = k;
      };
      unsigned = tt;
    }) g) reads

-- a quoted text, whose quote is read
pub quote_part : (m : Machine) (bytes : ByteList) (clauses : List ClauseTree)
    → Asks (Some (at (Letters Quote) (fresh m))) bytes clauses → BarePart m (34 ∷ bytes) clauses
quote_part m bytes clauses h =
    let s = span Quote (fresh m) bytes clauses h in quote_by m bytes clauses s.rest s refl

-- a range, whose bracket is read
pub range_part : (m : Machine) (low_in : Bool) (b : ℕ) (bytes : ByteList)
    (clauses : List ClauseTree) → b ≡ opening low_in
    → Asks (Some (at (Before Low) (record m { low_in = low_in }))) bytes clauses
    → BarePart m (b ∷ bytes) clauses
range_part m low_in b bytes clauses is h =
    let p = range_sound (record m { low_in = low_in }) bytes clauses h in
    record {
      part = record {
        test = range p.range;
        rest = p.rest;
        allowed = p.allowed;
        ends = tt;
        is =
            ap (λ x. x ∷ bytes) (is ∙ ap opening (sym p.low_in))
            ∙ ap (λ t. opening p.range.low_in ∷ t) p.is;
        reads = p.reads;
      };
      unsigned = tt;
    }

-- ---- what stands behind a colon

-- a list that opens, and what is left
pub record GroupPart (m : Machine) (bytes : ByteList) (clauses : List ClauseTree) : Type 0 where
  pub rest : ByteList
  pub room : length m.outer < level_limit
  pub is : bytes ≡ 40 ∷ rest
  pub reads : Asks (Some (ready stage.First Optional (Some m.name) []
      (record { role = m.role; clauses = m.clauses; outside = Other m.field } ∷ m.outer))) rest
      clauses

-- a test or a list that opens
pub data FieldPart (m : Machine) (bytes : ByteList) (clauses : List ClauseTree) : Type 0 where
  a_test : TestPart m bytes clauses → FieldPart m bytes clauses
  a_group : GroupPart m bytes clauses → FieldPart m bytes clauses

-- it stands behind blanks
pub record TestedPart (m : Machine) (bytes : ByteList) (clauses : List ClauseTree) : Type 0 where
  pub gap : ByteList
  pub rest : ByteList
  pub blank : AreBlank gap
  pub is : bytes ≡ gap ++ rest
  pub part : FieldPart m rest clauses

-- a word that begins with no sign
begun_word : (m : Machine) (b : ℕ) (bytes : ByteList) (clauses : List ClauseTree)
    → is_sign b ≡ false → Asks (begin Word m b (b ∷ [])) bytes clauses
    → TestPart m (b ∷ bytes) clauses
begun_word m b bytes clauses sign h =
    let s = span_begun Word m b bytes clauses h in
    word_by m b bytes clauses s.letters
    (begins_word b s.letters.letters
    (first_is Word b bytes s.letters.letters s.letters.rest s.taken s.letters.is s.letters.stops)
    sign)

-- a parenthesis that opens a list
group_by : (m : Machine) (bytes : ByteList) (clauses : List ClauseTree)
    → Asks (open_group m) bytes clauses → GroupPart m (40 ∷ bytes) clauses
group_by m bytes clauses h =
    only_true (nat_lt (length m.outer) level_limit)
    (Some (ready stage.First Optional (Some m.name) []
    (record { role = m.role; clauses = m.clauses; outside = Other m.field } ∷ m.outer))) bytes
    clauses
    (λ room g. record {
      rest = bytes;
      room = ltb-true (length m.outer) level_limit room;
      is = refl;
      reads = g;
    }) h

-- a minus begins a number, a parenthesis opens a list, and else a word is begun
sign_by : (m : Machine) (b : ℕ) (bytes : ByteList) (clauses : List ClauseTree)
    → Asks (if b == 45 then Some (at Minus (record m { text = 45 ∷ []; escapes = false }))
    else (if b == 40 then open_group m
    else (if b == 43 then None else begin Word m b (b ∷ [])))) bytes clauses
    → FieldPart m (b ∷ bytes) clauses
sign_by m b bytes clauses h =
    let minus = at Minus (record m { text = 45 ∷ []; escapes = false }) in
    let begun = begin Word m b (b ∷ []) in
    let more = if b == 43 then None else begun in
    either (b == 45) (Some minus) (if b == 40 then open_group m else more) bytes clauses
    (λ is g. subst (λ (x : ℕ). FieldPart m (x ∷ bytes) clauses) (sym (eqb-true b 45 is))
    (a_test (minus_sound m bytes clauses g)))
    (λ no_minus g. either (b == 40) (open_group m) more bytes clauses
    (λ is k. subst (λ (x : ℕ). FieldPart m (x ∷ bytes) clauses) (sym (eqb-true b 40 is))
    (a_group (group_by m bytes clauses k)))
    (λ _ k. only_false (b == 43) begun bytes clauses
    (λ no_plus l. a_test
    (begun_word m b bytes clauses (or_from (b == 43) (b == 45) no_plus no_minus) l)) k) g) h

-- a bracket begins a range
bracket_by : (m : Machine) (b : ℕ) (bytes : ByteList) (clauses : List ClauseTree)
    → Asks (if b == 91 then Some (at (Before Low) (record m { low_in = true }))
    else (if b == 123 then Some (at (Before Low) (record m { low_in = false }))
    else (if b == 45 then Some (at Minus (record m { text = 45 ∷ []; escapes = false }))
    else (if b == 40 then open_group m
    else (if b == 43 then None else begin Word m b (b ∷ [])))))) bytes clauses
    → FieldPart m (b ∷ bytes) clauses
bracket_by m b bytes clauses h =
    let brace = Some (at (Before Low) (record m { low_in = false })) in
    let more =
    if b == 45 then Some (at Minus (record m { text = 45 ∷ []; escapes = false }))
    else (if b == 40 then open_group m
    else (if b == 43 then None else begin Word m b (b ∷ []))) in
    either (b == 91) (Some (at (Before Low) (record m { low_in = true })))
    (if b == 123 then brace else more) bytes clauses
    (λ is g. a_test (range_part m true b bytes clauses (eqb-true b 91 is) g).part)
    (λ _ g. either (b == 123) brace more bytes clauses
    (λ is k. a_test (range_part m false b bytes clauses (eqb-true b 123 is) k).part)
    (λ _ k. sign_by m b bytes clauses k) g) h

-- a star is a test, and a quote begins one
mark_by : (m : Machine) (b : ℕ) (bytes : ByteList) (clauses : List ClauseTree)
    → Asks (if b == 42 then Some (end_test test.Present m)
    else (if b == 34 then Some (at (Letters Quote) (fresh m))
    else (if b == 91 then Some (at (Before Low) (record m { low_in = true }))
    else (if b == 123 then Some (at (Before Low) (record m { low_in = false }))
    else (if b == 45 then Some (at Minus (record m { text = 45 ∷ []; escapes = false }))
    else (if b == 40 then open_group m
    else (if b == 43 then None else begin Word m b (b ∷ [])))))))) bytes clauses
    → FieldPart m (b ∷ bytes) clauses
mark_by m b bytes clauses h =
    let more =
    if b == 91 then Some (at (Before Low) (record m { low_in = true }))
    else (if b == 123 then Some (at (Before Low) (record m { low_in = false }))
    else (if b == 45 then Some (at Minus (record m { text = 45 ∷ []; escapes = false }))
    else (if b == 40 then open_group m
    else (if b == 43 then None else begin Word m b (b ∷ []))))) in
    let quoted = Some (at (Letters Quote) (fresh m)) in
    either (b == 42) (Some (end_test test.Present m)) (if b == 34 then quoted else more) bytes
    clauses
    (λ is g. a_test (record {
      test = star;
      rest = bytes;
      allowed = tt;
      ends = tt;
      is = ap (λ x. x ∷ bytes) (eqb-true b 42 is);
      reads = g;
    }))
    (λ _ g. either (b == 34) quoted more bytes clauses
    (λ is k. subst (λ (x : ℕ). FieldPart m (x ∷ bytes) clauses) (sym (eqb-true b 34 is))
    (a_test (quote_part m bytes clauses k).part))
    (λ _ k. bracket_by m b bytes clauses k) g) h

-- what stands behind a colon is read as it was laid out
pub tested_sound : (m : Machine) (bytes : ByteList) (clauses : List ClauseTree)
    → Asks (Some (at Tested m)) bytes clauses → TestedPart m bytes clauses
unfolding test_step
tested_sound m [] clauses h = absurd cc
tested_sound m (b ∷ bytes) clauses h =
    let more =
    if b == 42 then Some (end_test test.Present m)
    else (if b == 34 then Some (at (Letters Quote) (fresh m))
    else (if b == 91 then Some (at (Before Low) (record m { low_in = true }))
    else (if b == 123 then Some (at (Before Low) (record m { low_in = false }))
    else (if b == 45 then Some (at Minus (record m { text = 45 ∷ []; escapes = false }))
    else (if b == 40 then open_group m
    else (if b == 43 then None else begin Word m b (b ∷ []))))))) in
    either (is_blank b) (Some (at Tested m)) more bytes clauses
    (λ blank g. let p = tested_sound m bytes clauses g in record {
      gap = b ∷ p.gap;
      rest = p.rest;
      blank = (blank, p.blank);
      is = ap (λ t. b ∷ t) p.is;
      part = p.part;
    })
    (λ _ g. record {
      gap = [];
      rest = b ∷ bytes;
      blank = tt;
      is = refl;
      part = mark_by m b bytes clauses g;
    }) h
