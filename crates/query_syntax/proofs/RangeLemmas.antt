-- What is read as a range was laid out as one.
use Rattle.std.proofs.Common.{◌≡◌, ℕ, List, [], ◌∷◌, ◌++◌, Bool, true, false, Option, Some, None}
use Rattle.std.proofs.Common.{refl, ap, sym, subst, ◌∙◌, append_assoc}
use Rattle.std.specs.Prelude.{◌==◌, if◌then◌else◌, codes}
use Rattle.std.proofs.lemmas.Bool.{eqb-true}
use Rattle.tuple_values.specs.Document.{ByteList}
use Rattle.query_syntax.specs.Letters.{is_blank, AreBlank}
use Rattle.query_syntax.specs.Letters.{letters_print, letters_text, has_escape, is_just}
use Rattle.query_syntax.specs.Ranges.{BoundLayout, bare, quoted, bound_print, bound_says, IsBound}
use Rattle.query_syntax.specs.Ranges.{RangeLayout, closing, end_print, to_print}
use Rattle.query_syntax.specs.Ranges.{range_says, IsRange, bare_says}
use Rattle.query_syntax.specs.Machine.{Machine, begin}
use Rattle.query_syntax.specs.Items.{end_bound, end_test, end_range}
use Rattle.query_syntax.specs.Items.{closed_step}
use Rattle.query_syntax.specs.Reading.{all_read}
use Rattle.query_syntax.specs.Codes.{rest_of}
use Rattle.query_syntax.specs.Tree.{ClauseTree}
use Rattle.query_syntax.specs.declared.place.Side.{Side}
use Rattle.query_syntax.specs.declared.place.Side.TheVariants.{Low, High}
use Rattle.query_syntax.specs.declared.place.Kind.TheVariants.{Bare, Quoted}
use Rattle.query_syntax.specs.declared.place.Place.TheVariants.{Letters, Before, Closed, Gap, T}
use Rattle.query_syntax.specs.declared.place.Place.TheVariants.{To}
use Rattle.query_syntax.proofs.LetterLemmas.{at, fresh, after_letters}
use Rattle.query_syntax.proofs.LaidTestLemmas.{end_bound_over, closed_at, to_print-append}
use Rattle.query_syntax.proofs.SpanLemmas.{Asks, either, only_true, only_false, Span}
use Rattle.query_syntax.proofs.SpanLemmas.{span, span_begun, span_ends, Stops}
use Rattle.query_syntax.proofs.SpanLemmas.{First, first_is, first_some}

-- ---- bounds

-- a bound behind blanks, and what is left
pub record BoundPart (side : Side) (m : Machine) (bytes : ByteList) (clauses : List ClauseTree)
    : Type 0 where
  pub gap : ByteList
  pub bound : BoundLayout
  pub rest : ByteList
  pub blank : AreBlank gap
  pub allowed : IsBound bound
  pub is : bytes ≡ gap ++ (bound_print bound ++ rest)
  pub reads : Asks (Some (end_bound side (bound_says bound) m)) rest clauses

-- with one blank more
bound_blank : (side : Side) (m : Machine) (b : ℕ) (bytes : ByteList) (clauses : List ClauseTree)
    → is_blank b ≡ true → BoundPart side m bytes clauses → BoundPart side m (b ∷ bytes) clauses
bound_blank side m b bytes clauses blank p = record {
  gap = b ∷ p.gap;
  bound = p.bound;
  rest = p.rest;
  blank = (blank, p.blank);
  allowed = p.allowed;
  is = ap (λ t. b ∷ t) p.is;
  reads = p.reads;
}

-- a quoted bound, whose letters are read
quoted_by : (side : Side) (m : Machine) (bytes : ByteList) (clauses : List ClauseTree)
    (rest : ByteList) (s : Span (Quoted side) (fresh m) bytes clauses)
    → s.rest ≡ rest → BoundPart side m (34 ∷ bytes) clauses
quoted_by side m bytes clauses [] s is =
    let none = subst (λ t. Asks (Some (after_letters (Quoted side) (fresh m) s.letters)) t clauses)
    is s.reads in absurd cc
quoted_by side m bytes clauses (d ∷ rest) s is =
    let last = after_letters (Quoted side) (fresh m) s.letters in
    let reads = subst (λ t. Asks (Some last) t clauses) is s.reads in
    let stops = subst (Stops (Quoted side)) is s.stops in
    span_ends (Quoted side) last d rest clauses stops
    (λ g. only_true (d == 34) (Some (end_bound side (Some last.text) last)) rest clauses
    (λ quote k. record {
      gap = [];
      bound = quoted s.letters;
      rest = rest;
      blank = tt;
      allowed = s.are;
      is =
          ap (λ t. 34 ∷ t)
          (s.is ∙ ap (λ t. letters_print s.letters ++ t)
          (is ∙ ap (λ x. x ∷ rest) (eqb-true d 34 quote))
          ∙ sym (append_assoc (letters_print s.letters) (34 ∷ []) rest));
      reads =
          subst (λ n. Asks (Some n) rest clauses)
          (end_bound_over side (Some (letters_text s.letters)) m (Letters (Quoted side))
          (letters_text s.letters) (has_escape s.letters)) k;
    }) g) reads

-- no text ends behind the letters of a bound
bare_last : (to : Bool) (side : Side) (bound : Option ByteList) (m : Machine)
    (clauses : List ClauseTree)
    → all_read (if to then None else closed_step side (end_bound side bound m) 32) ≡ Some clauses
    → ⊥
bare_last true side bound m clauses h = cc
bare_last false Low bound m clauses h = cc
bare_last false High bound m clauses h = cc

-- a bound without quotes, whose letters are read
bare_by : (side : Side) (m : Machine) (b : ℕ) (bytes : ByteList) (clauses : List ClauseTree)
    (rest : ByteList) (s : Span (Bare side) (fresh m) (b ∷ bytes) clauses)
    → First b s.letters → s.rest ≡ rest → BoundPart side m (b ∷ bytes) clauses
bare_by side m b bytes clauses [] s first is =
    let last = after_letters (Bare side) (fresh m) s.letters in
    let h = subst (λ t. Asks (Some last) t clauses) is s.reads in
    absurd (bare_last (is_just (codes "TO") last.escapes last.text) side
    (bare_says last.escapes last.text) last clauses h)
bare_by side m b bytes clauses (d ∷ rest) s first is =
    let last = after_letters (Bare side) (fresh m) s.letters in
    let says = bound_says (bare s.letters) in
    let reads = subst (λ t. Asks (Some last) t clauses) is s.reads in
    let stops = subst (Stops (Bare side)) is s.stops in
    span_ends (Bare side) last d rest clauses stops
    (λ g. only_false (is_just (codes "TO") last.escapes last.text)
    (closed_step side (end_bound side says last) d) rest clauses
    (λ not_to k. record {
      gap = [];
      bound = bare s.letters;
      rest = d ∷ rest;
      blank = tt;
      allowed = record {
        are_letters = s.are;
        not_empty = first_some b s.letters first;
        not_to = not_to;
      };
      is = s.is ∙ ap (λ t. letters_print s.letters ++ t) is;
      reads =
          subst (λ o. Asks o rest clauses)
          (ap (λ n. closed_step side n d)
          (end_bound_over side says m (Letters (Bare side))
          (letters_text s.letters) (has_escape s.letters))
          ∙ closed_at side says m d) k;
    }) g) reads

-- a bound is read as it was laid out
pub before_sound : (side : Side) (m : Machine) (bytes : ByteList) (clauses : List ClauseTree)
    → Asks (Some (at (Before side) m)) bytes clauses → BoundPart side m bytes clauses
before_sound side m [] clauses h = absurd cc
before_sound side m (b ∷ bytes) clauses h =
    let begun = begin (Bare side) (at (Before side) m) b (b ∷ []) in
    let opened = at (Letters (Quoted side)) (fresh m) in
    either (is_blank b) (Some (at (Before side) m))
    (if b == 34 then Some opened else begun) bytes clauses
    (λ blank g. bound_blank side m b bytes clauses blank (before_sound side m bytes clauses g))
    (λ some g. either (b == 34) (Some opened) begun bytes clauses
    (λ quote k. let s = span (Quoted side) (fresh m) bytes clauses k in
    subst (λ (x : ℕ). BoundPart side m (x ∷ bytes) clauses) (sym (eqb-true b 34 quote))
    (quoted_by side m bytes clauses s.rest s refl))
    (λ other k. let s = span_begun (Bare side) m b bytes clauses k in
    bare_by side m b bytes clauses s.letters.rest s.letters
    (first_is (Bare side) b bytes s.letters.letters s.letters.rest s.taken s.letters.is
    s.letters.stops) refl) g) h

-- ---- the end of a range

-- a bracket behind blanks, and what is left
pub record ClosingPart (m : Machine) (bytes : ByteList) (clauses : List ClauseTree) : Type 0 where
  pub gap : ByteList
  pub high_in : Bool
  pub rest : ByteList
  pub blank : AreBlank gap
  pub is : bytes ≡ gap ++ closing high_in ∷ rest
  pub reads : Asks (Some (end_range high_in m)) rest clauses

-- a bracket
closing_by : (m : Machine) (high_in : Bool) (b : ℕ) (bytes : ByteList) (clauses : List ClauseTree)
    → b ≡ closing high_in → Asks (Some (end_range high_in m)) bytes clauses
    → ClosingPart m (b ∷ bytes) clauses
closing_by m high_in b bytes clauses is h = record {
  gap = [];
  high_in = high_in;
  rest = bytes;
  blank = tt;
  is = ap (λ x. x ∷ bytes) is;
  reads = h;
}

-- the end of a range is read as it was laid out
closing_sound : (m : Machine) (bytes : ByteList) (clauses : List ClauseTree)
    → Asks (Some (at (Closed High) m)) bytes clauses → ClosingPart m bytes clauses
closing_sound m [] clauses h = absurd cc
closing_sound m (b ∷ bytes) clauses h =
    let last = if b == 125 then Some (end_range false m) else None in
    either (is_blank b) (Some (at (Closed High) m))
    (if b == 93 then Some (end_range true m) else last) bytes clauses
    (λ blank g. let p = closing_sound m bytes clauses g in record {
      gap = b ∷ p.gap;
      high_in = p.high_in;
      rest = p.rest;
      blank = (blank, p.blank);
      is = ap (λ t. b ∷ t) p.is;
      reads = p.reads;
    })
    (λ some g. either (b == 93) (Some (end_range true m)) last bytes clauses
    (λ is k. closing_by m true b bytes clauses (eqb-true b 93 is) k)
    (λ other k. only_true (b == 125) (Some (end_range false m)) bytes clauses
    (λ is l. closing_by m false b bytes clauses (eqb-true b 125 is) l) k) g) h

-- ---- between the bounds

-- `TO` with blanks before it and a blank behind it, and what is left
pub record ToPart (m : Machine) (bytes : ByteList) (clauses : List ClauseTree) : Type 0 where
  pub gap : ByteList
  pub space : ℕ
  pub rest : ByteList
  pub blank : AreBlank gap
  pub blank_behind : is_blank space ≡ true
  pub is : bytes ≡ gap ++ 84 ∷ 79 ∷ space ∷ rest
  pub reads : Asks (Some (at (Before High) m)) rest clauses

-- behind `TO`
to_by : (m : Machine) (bytes : ByteList) (clauses : List ClauseTree)
    → Asks (Some (at To m)) bytes clauses → ToPart m (84 ∷ 79 ∷ bytes) clauses
to_by m [] clauses h = absurd cc
to_by m (b ∷ bytes) clauses h =
    only_true (is_blank b) (Some (at (Before High) m)) bytes clauses
    (λ blank g. record {
      gap = [];
      space = b;
      rest = bytes;
      blank = tt;
      blank_behind = blank;
      is = refl;
      reads = g;
    }) h

-- behind its first letter
t_by : (m : Machine) (bytes : ByteList) (clauses : List ClauseTree)
    → Asks (Some (at T m)) bytes clauses → ToPart m (84 ∷ bytes) clauses
t_by m [] clauses h = absurd cc
t_by m (b ∷ bytes) clauses h =
    only_true (b == 79) (Some (at To m)) bytes clauses
    (λ is g. subst (λ (x : ℕ). ToPart m (84 ∷ x ∷ bytes) clauses) (sym (eqb-true b 79 is))
    (to_by m bytes clauses g)) h

-- behind a blank
gap_sound : (m : Machine) (bytes : ByteList) (clauses : List ClauseTree)
    → Asks (Some (at Gap m)) bytes clauses → ToPart m bytes clauses
gap_sound m [] clauses h = absurd cc
gap_sound m (b ∷ bytes) clauses h =
    either (is_blank b) (Some (at Gap m)) (if b == 84 then Some (at T m) else None) bytes clauses
    (λ blank g. let p = gap_sound m bytes clauses g in record {
      gap = b ∷ p.gap;
      space = p.space;
      rest = p.rest;
      blank = (blank, p.blank);
      blank_behind = p.blank_behind;
      is = ap (λ t. b ∷ t) p.is;
      reads = p.reads;
    })
    (λ some g. only_true (b == 84) (Some (at T m)) bytes clauses
    (λ is k. subst (λ (x : ℕ). ToPart m (x ∷ bytes) clauses) (sym (eqb-true b 84 is))
    (t_by m bytes clauses k)) g) h

-- what stands behind the lower bound
pub record UpperPart (m : Machine) (bytes : ByteList) (clauses : List ClauseTree) : Type 0 where
  pub first : ℕ
  pub first_blank : is_blank first ≡ true
  pub to : ToPart m (rest_of bytes) clauses
  pub is : bytes ≡ first ∷ rest_of bytes

-- it is read as it was laid out
closed_sound : (m : Machine) (bytes : ByteList) (clauses : List ClauseTree)
    → Asks (Some (at (Closed Low) m)) bytes clauses → UpperPart m bytes clauses
closed_sound m [] clauses h = absurd cc
closed_sound m (b ∷ bytes) clauses h =
    only_true (is_blank b) (Some (at Gap m)) bytes clauses
    (λ blank g. record {
      first = b;
      first_blank = blank;
      to = gap_sound m bytes clauses g;
      is = refl;
    }) h

-- ---- ranges

-- a range behind its first bracket, and what is left
pub record RangePart (m : Machine) (bytes : ByteList) (clauses : List ClauseTree) : Type 0 where
  pub range : RangeLayout
  pub rest : ByteList
  pub low_in : range.low_in ≡ m.low_in
  pub allowed : IsRange range
  pub is : bytes ≡ (range.before_low ++ (bound_print range.low ++ to_print range)) ++ rest
  pub reads : Asks (Some (end_test (range_says range) m)) rest clauses

-- a range from its parts
range_whole : (r : RangeLayout) (bytes behind_low behind_high rest : ByteList)
    → bytes ≡ r.before_low ++ (bound_print r.low ++ behind_low)
    → behind_low ≡ r.behind_low ++ 84 ∷ 79 ∷
    (r.before_high ++ (bound_print r.high ++ behind_high))
    → behind_high ≡ r.behind_high ++ closing r.high_in ∷ rest
    → bytes ≡ (r.before_low ++ (bound_print r.low ++ to_print r)) ++ rest
range_whole r bytes behind_low behind_high rest low between high =
    let closed : behind_high ≡ end_print r ++ rest =
    high ∙ sym (append_assoc r.behind_high (closing r.high_in ∷ []) rest) in
    let upper : behind_low ≡ to_print r ++ rest =
    between
    ∙ ap (λ t. r.behind_low ++ 84 ∷ 79 ∷ (r.before_high ++ (bound_print r.high ++ t))) closed
    ∙ sym (to_print-append r rest) in
    low ∙ ap (λ t. r.before_low ++ (bound_print r.low ++ t)) upper
    ∙ sym (append_assoc r.before_low (bound_print r.low ++ to_print r) rest
    ∙ ap (λ t. r.before_low ++ t) (append_assoc (bound_print r.low) (to_print r) rest))

-- a range is read as it was laid out
pub range_sound : (m : Machine) (bytes : ByteList) (clauses : List ClauseTree)
    → Asks (Some (at (Before Low) m)) bytes clauses → RangePart m bytes clauses
range_sound m bytes clauses h =
    let l = before_sound Low m bytes clauses h in
    let low = end_bound Low (bound_says l.bound) m in
    let u = closed_sound low l.rest clauses l.reads in
    let p = before_sound High low u.to.rest clauses u.to.reads in
    let high = end_bound High (bound_says p.bound) low in
    let e = closing_sound high p.rest clauses p.reads in
    let r : RangeLayout = record {
      low_in = m.low_in;
      before_low = l.gap;
      low = l.bound;
      behind_low = u.first ∷ u.to.gap;
      before_high = u.to.space ∷ p.gap;
      high = p.bound;
      behind_high = e.gap;
      high_in = e.high_in;
    } in
    record {
      range = r;
      rest = e.rest;
      low_in = refl;
      allowed = record {
        before_low = l.blank;
        low = l.allowed;
        behind_low = (u.first_blank, u.to.blank);
        before_high = (u.to.blank_behind, p.blank);
        high = p.allowed;
        behind_high = e.blank;
      };
      is =
          range_whole r bytes l.rest p.rest e.rest l.is
          (u.is ∙ ap (λ t. u.first ∷ t) (u.to.is
          ∙ ap (λ t. u.to.gap ++ 84 ∷ 79 ∷ u.to.space ∷ t) p.is)) e.is;
      reads = e.reads;
    }
