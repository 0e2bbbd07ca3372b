-- The reading of a term is right.
use Rattle.std.proofs.Common.{◌≡◌, [], ◌∷◌, ◌++◌, drop, take}
use Rattle.std.proofs.Common.{Bool, true, false, ◌==◌, refl, sym, ◌∙◌, ap, subst}
use Rattle.std.specs.Prelude.{codes}
use Rattle.std.specs.Char.{to_ascii_lowercase}
use Rattle.std.specs.Str.{str_to_ascii_lowercase}
use Rattle.std.specs.List.{prefix_len}
use Rattle.tuple_values.specs.Document.{ByteList}
use Rattle.sort_spec.specs.Grammar.{is_blank, is_field_byte}
use Rattle.sort_spec.specs.Texts.{direction_word, IsTerm}
use Rattle.sort_spec.specs.Reading.{closed, directed, begins_with_d, past_some, term_of}
use Rattle.sort_spec.specs.declared.term.SortTerm.{SortTerm}
use Rattle.sort_spec.proofs.ByteLemmas.{blank_no_field_byte, field_byte_no_blank}
use Rattle.sort_spec.proofs.ByteLemmas.{letter_no_blank_by}
use Rattle.sort_spec.proofs.RightLemmas.{IsRight, Alike, alike_right}
use Rattle.sort_spec.proofs.PartLemmas.{Apart, Past, PastSome, Closed, Letters, past_right}
use Rattle.sort_spec.proofs.PartLemmas.{past_some_right, closed_right, letters_right, some_apart}

-- a direction and blanks, of the term with this field
abbrev Directed : ByteList → ByteList → SortTerm → Type 0
Directed field bytes term =
    (descending : Bool)
    × Letters (direction_word descending)
    (Closed (record { field = field; descending = descending })) bytes term

-- blanks before it
abbrev Gap : ByteList → ByteList → SortTerm → Type 0
Gap field = PastSome is_blank (λ between. Directed field)

-- a field before them
abbrev Named : ByteList → SortTerm → Type 0
Named = PastSome is_field_byte Gap

-- the words of directions are in small letters
small : (descending : Bool)
    → str_to_ascii_lowercase (direction_word descending) ≡ direction_word descending
small false = refl
small true = refl

-- the first letter tells the direction
first_tells : (descending : Bool) (written rest : ByteList)
    → str_to_ascii_lowercase written ≡ direction_word descending
    → begins_with_d (written ++ rest) ≡ descending
first_tells false [] rest same = absurd (cc)
first_tells true [] rest same = absurd (cc)
first_tells false (c ∷ written) rest same =
    let low : to_ascii_lowercase c ≡ 97 = cc in ap (λ b. b == 100) low
first_tells true (c ∷ written) rest same =
    let low : to_ascii_lowercase c ≡ 100 = cc in ap (λ b. b == 100) low

-- bytes that begin alike tell the same
alike_first : (bytes text : ByteList) → Alike bytes text → begins_with_d text ≡ begins_with_d bytes
alike_first [] [] alike = refl
alike_first [] (c ∷ text) alike = absurd alike
alike_first (b ∷ bytes) [] alike = absurd alike
alike_first (b ∷ bytes) (c ∷ text) alike = ap (λ x. to_ascii_lowercase x == 100) (sym alike)

-- no direction begins with a blank
direction_apart : (descending : Bool) (written rest : ByteList)
    → str_to_ascii_lowercase written ≡ direction_word descending
    → Apart is_blank (written ++ rest)
direction_apart false [] rest same = absurd (cc)
direction_apart true [] rest same = absurd (cc)
direction_apart false (c ∷ written) rest same =
    let low : to_ascii_lowercase c ≡ 97 = cc in
    letter_no_blank_by c 97 (is_blank c) refl low refl
direction_apart true (c ∷ written) rest same =
    let low : to_ascii_lowercase c ≡ 100 = cc in
    letter_no_blank_by c 100 (is_blank c) refl low refl

-- so it is apart from the blanks before it
directed_apart : (field rest : ByteList) (term : SortTerm) → Directed field rest term
    → Apart is_blank rest
directed_apart field rest term (descending, l) =
    let P : ByteList → Type 0 = λ bytes. Apart is_blank bytes in
    subst P (sym l.printed) (direction_apart descending l.written l.rest l.same)

-- the direction that the first byte tells is the one
one_direction : (field bytes text : ByteList) (term : SortTerm) → Alike bytes text
    → Directed field text term
    → Letters (direction_word (begins_with_d bytes))
    (Closed (record { field = field; descending = begins_with_d bytes })) text term
one_direction field bytes text term alike (descending, l) =
    let told : descending ≡ begins_with_d bytes =
    sym (first_tells descending l.written l.rest l.same)
    ∙ ap begins_with_d (sym l.printed) ∙ alike_first bytes text alike in
    let P : Bool → Type 0 =
    λ d. Letters (direction_word d) (Closed (record { field = field; descending = d })) text term in
    subst P told l

-- the reading of a direction is right
directed_right : (field bytes : ByteList)
    → IsRight (Directed field) bytes (directed field (begins_with_d bytes) bytes)
directed_right field bytes =
    let d = begins_with_d bytes in
    let term : SortTerm = record { field = field; descending = d } in
    alike_right (Directed field) (Letters (direction_word d) (Closed term)) bytes
    (λ text value alike says. one_direction field bytes text value alike says)
    (λ text value says. (d, says)) (directed field d bytes)
    (letters_right (Closed term) (closed term) ([], term, (tt, refl)) (closed_right term)
    (direction_word d) (small d) bytes)

-- a text that goes on from a field
gap_begins : (field : ByteList)
    → Gap field (32 ∷ codes "asc") (record { field = field; descending = false })
gap_begins field = record {
  front = 32 ∷ [];
  rest = codes "asc";
  passing = (refl, tt);
  printed = refl;
  says = (
    λ none. cc,
    (
      false,
      record {
        written = codes "asc";
        rest = [];
        same = refl;
        printed = refl;
        says = (tt, refl);
      },
    ),
  );
}

-- so is that with blanks before it
gap_right : (field bytes : ByteList)
    → IsRight (Gap field) bytes
    (past_some is_blank (λ between rest. directed field (begins_with_d rest) rest) bytes)
gap_right field bytes =
    past_some_right is_blank (λ between. Directed field)
    (λ between rest value says. directed_apart field rest value says)
    (32 ∷ codes "asc", record { field = field; descending = false }, gap_begins field)
    (λ between rest. directed field (begins_with_d rest) rest) bytes
    (directed_right field (drop (prefix_len is_blank bytes) bytes))

-- a text that is a term
named_begins : Named (97 ∷ 32 ∷ codes "asc") (record { field = 97 ∷ []; descending = false })
named_begins = record {
  front = 97 ∷ [];
  rest = 32 ∷ codes "asc";
  passing = (refl, tt);
  printed = refl;
  says = (λ none. cc, gap_begins (97 ∷ []));
}

-- the reading of a field and what follows it is right
named_right : (bytes : ByteList)
    → IsRight Named bytes
    (past_some is_field_byte (λ field. past_some is_blank (λ between rest.
    directed field (begins_with_d rest) rest)) bytes)
named_right bytes =
    let n = prefix_len is_field_byte bytes in
    past_some_right is_field_byte Gap
    (λ field rest value says.
    some_apart is_blank is_field_byte blank_no_field_byte (λ between. Directed field) rest value
    says)
    (97 ∷ 32 ∷ codes "asc", record { field = 97 ∷ []; descending = false }, named_begins)
    (λ field. past_some is_blank (λ between rest. directed field (begins_with_d rest) rest)) bytes
    (gap_right (take n bytes) (drop n bytes))

-- the parts of a term, and a term of parts
term_parts : (text : ByteList) (term : SortTerm) → IsTerm text term
    → Past is_blank (λ blanks. Named) text term
term_parts text term t = record {
  front = t.before;
  rest = term.field ++ (t.between ++ (t.direction ++ t.behind));
  passing = t.blank_before;
  printed = t.printed;
  says = record {
    front = term.field;
    rest = t.between ++ (t.direction ++ t.behind);
    passing = t.named.1;
    printed = refl;
    says = (
      t.named.0,
      record {
        front = t.between;
        rest = t.direction ++ t.behind;
        passing = t.blank_between.1;
        printed = refl;
        says = (
          t.blank_between.0,
          (
            term.descending,
            record {
              written = t.direction;
              rest = t.behind;
              same = t.directed;
              printed = refl;
              says = (t.blank_behind, refl);
            },
          ),
        );
      },
    );
  };
}

-- and these parts are a term
term_of_parts : (text : ByteList) (term : SortTerm) → Past is_blank (λ blanks. Named) text term
    → IsTerm text term
term_of_parts text term p =
    let field = p.says in
    let gap = field.says.1 in
    let (descending, word) = gap.says.1 in
    let P : SortTerm → Type 0 = λ t. IsTerm text t in
    subst P (sym word.says.1) (record {
      before = p.front;
      between = gap.front;
      direction = word.written;
      behind = word.rest;
      blank_before = p.passing;
      named = (field.says.0, field.passing);
      blank_between = (gap.says.0, gap.passing);
      directed = word.same;
      blank_behind = word.says.0;
      printed =
          p.printed
          ∙ ap (λ rest. p.front ++ rest)
          (field.printed
          ∙ ap (λ rest. field.front ++ rest)
          (gap.printed ∙ ap (λ rest. gap.front ++ rest) word.printed));
    })

-- the reading of a term is right
pub term_right : (bytes : ByteList) → IsRight IsTerm bytes (term_of bytes)
term_right bytes =
    alike_right IsTerm (Past is_blank (λ blanks. Named)) bytes
    (λ text term alike says. term_parts text term says) term_of_parts (term_of bytes)
    (past_right is_blank (λ blanks. Named)
    (λ blanks rest value says.
    some_apart is_field_byte is_blank field_byte_no_blank Gap rest value says)
    (λ blanks. past_some is_field_byte (λ field. past_some is_blank (λ between rest.
    directed field (begins_with_d rest) rest)))
    bytes (named_right (drop (prefix_len is_blank bytes) bytes)))
