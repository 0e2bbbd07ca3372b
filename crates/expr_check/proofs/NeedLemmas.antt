-- What the tests of needs say.
use Rattle.std.proofs.Common.{◌≡◌, List, [], ◌∷◌, ◌++◌, Bool, true, false, not, ◌&&◌, ◌||◌, IsTrue}
use Rattle.std.proofs.Common.{◌↔◌}
use Rattle.std.proofs.Common.{if◌then◌else◌, refl, sym, ◌∙◌, ap}
use Rattle.std.specs.Prelude.{bytes_eq}
use Rattle.std.proofs.lemmas.Slice.Eq.{bytes_eq-Decides}
use Rattle.std.proofs.Common.{Some}
use Rattle.tuple_values.specs.Document.{ByteList, is_named}
use Rattle.sort_spec.specs.Terms.{IsPrefix}
use Rattle.sort_spec.specs.declared.term.SortTerm.{SortTerm}
use Rattle.expr_check.specs.Faults.{field_outside}
use Rattle.expr_check.specs.Needs.{same_term, are_first}

-- both of two tests
pub and_first : (a b : Bool) → (a && b) ≡ true → a ≡ true
and_first true b e = refl
and_first false b e = absurd (cc)

pub and_second : (a b : Bool) → (a && b) ≡ true → b ≡ true
and_second true b e = e
and_second false b e = absurd (cc)

-- neither of two tests
pub or_first : (a b : Bool) → (a || b) ≡ false → a ≡ false
or_first true b e = absurd (cc)
or_first false b e = refl

pub or_second : (a b : Bool) → (a || b) ≡ false → b ≡ false
or_second true b e = absurd (cc)
or_second false b e = e

-- what isn't true is false
pub is_false : (b : Bool) → not b ≡ true → b ≡ false
is_false true e = absurd (cc)
is_false false e = refl

-- texts that are told equal are one
pub same_bytes : (a b : ByteList) → bytes_eq a b ≡ true → a ≡ b
same_bytes a b e = (bytes_eq-Decides a b).0 e

-- a text is told equal to itself
pub itself_bytes : (a : ByteList) → bytes_eq a a ≡ true
itself_bytes a = (bytes_eq-Decides a a).1 refl

-- directions that are told equal are one
same_direction : (a b : Bool) → (if a then b else not b) ≡ true → a ≡ b
same_direction true b e = sym e
same_direction false true e = absurd (cc)
same_direction false false e = refl

itself_direction : (a : Bool) → (if a then a else not a) ≡ true
itself_direction true = refl
itself_direction false = refl

-- a term of its parts
abbrev term_of : ByteList → Bool → SortTerm
term_of field descending = record { field = field; descending = descending }

-- terms with one field and one direction are one
by_parts : (f g : ByteList) (a b : Bool) → f ≡ g → a ≡ b → term_of f a ≡ term_of g b
by_parts f g a b e d =
    ap (λ (x : ByteList). term_of x a) e ∙ ap (λ (x : Bool). term_of g x) d

-- terms that are told equal are one
pub same_term-is : (a b : SortTerm) → same_term a b ≡ true → a ≡ b
same_term-is a b e =
    by_parts a.field b.field a.descending b.descending
    (same_bytes a.field b.field (and_first (bytes_eq a.field b.field) _ e))
    (same_direction a.descending b.descending (and_second (bytes_eq a.field b.field) _ e))

-- a term is told equal to itself
itself_term : (a : SortTerm) → same_term a a ≡ true
itself_term a =
    let e = itself_bytes a.field in
    let d = itself_direction a.descending in rw (e, d) refl

-- terms that are told first are
pub are_first-prefix : (terms others : List SortTerm) → are_first terms others ≡ true
    → IsPrefix terms others
are_first-prefix [] others e = (others, refl)
are_first-prefix (term ∷ terms) [] e = absurd (cc)
are_first-prefix (term ∷ terms) (other ∷ others) e =
    let is = same_term-is term other (and_first (same_term term other) _ e) in
    let rest = are_first-prefix terms others (and_second (same_term term other) _ e) in (
      rest.0,
      ap (λ (t : SortTerm). t ∷ others) (sym is) ∙ ap (λ (l : List SortTerm). term ∷ l) rest.1,
    )

-- the first terms are told first
are_first-append : (terms rest : List SortTerm) → are_first terms (terms ++ rest) ≡ true
are_first-append [] rest = refl
are_first-append (term ∷ terms) rest =
    let e = itself_term term in
    let f = are_first-append terms rest in rw (e, f) refl

-- a test that is true just where another one is
test_by : {P : Type 0} (a b : Bool) → IsTrue a ↔ P → (b ≡ true → P) → (P → b ≡ true) → a ≡ b
test_by true b h f g = sym (g (h.0 refl))
test_by false true h f g = h.1 (f refl)
test_by false false h f g = refl

-- the test of a prefix is that of first terms
pub are_first-is : (result : Bool) (terms others : List SortTerm)
    → IsTrue result ↔ IsPrefix terms others → result ≡ are_first terms others
are_first-is result terms others h =
    test_by result (are_first terms others) h (are_first-prefix terms others)
    (λ p. ap (are_first terms) p.1 ∙ are_first-append terms p.0)

-- by lists with the same names the same field is the first outside
pub field_outside-same : (sort : List SortTerm) (names others : List ByteList)
    → ((name : ByteList) → is_named name names ≡ is_named name others)
    → field_outside sort names ≡ field_outside sort others
field_outside-same [] names others same = refl
field_outside-same (term ∷ sort) names others same =
    let here = same term.field in
    let more = field_outside-same sort names others same in
    λ j. if here j then more j else Some term.field
