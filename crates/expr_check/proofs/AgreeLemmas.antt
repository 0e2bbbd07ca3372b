-- Documents with the same values in the fields of a sort compare alike by it.
use Rattle.std.proofs.Common.{◌≡◌, ◌≢◌, List, [], ◌∷◌, Bool, true, false, ◌||◌, Option, Some, None}
use Rattle.std.proofs.Common.{if◌then◌else◌, refl, sym, ◌∙◌, ap}
use Rattle.std.specs.Prelude.{bytes_eq}
use Rattle.std.specs.List.{AllByRecursion}
use Rattle.std.specs.Option.{option_cmp}
use Rattle.std.specs.Ordering.{ordering_then, is_eq, is_lt}
use Rattle.std.specs.declared.cmp.Ordering.{Ordering}
use Rattle.std.specs.declared.cmp.Ordering.TheVariants.{Less, Equal, Greater}
use Rattle.tuple_values.specs.Document.{ByteList, bytes_cmp, Datum, Doc, value_at, put, put_by}
use Rattle.tuple_values.specs.Document.{without}
use Rattle.tuple_values.specs.Document.{is_named}
use Rattle.tuple_values.specs.Order.{datum_cmp}
use Rattle.tuple_values.proofs.MapLemmas.{bytes_same, value_put_other}
use Rattle.tuple_values.proofs.OrderLemmas.{datum_cmp_same}
use Rattle.sort_spec.specs.Terms.{field_cmp, term_cmp, sort_cmp, less}
use Rattle.sort_spec.specs.declared.term.SortTerm.{SortTerm}
use Rattle.expr_types.specs.Groups.{same_key}
use Rattle.expr_types.specs.Sources.{cut_to}
use Rattle.expr_check.proofs.NeedLemmas.{and_first, and_second, same_bytes, itself_bytes}

-- the terms have the same directions, and the documents the same values in their fields
abbrev pub Agrees : List SortTerm → List SortTerm → Doc → Doc → Type 0
Agrees [] [] doc other = Unit {0}
Agrees [] (t ∷ ts) doc other = ⊥
Agrees (s ∷ ss) [] doc other = ⊥
Agrees (s ∷ ss) (t ∷ ts) doc other =
    (s.descending ≡ t.descending) × (value_at s.field doc ≡ value_at t.field other)
    × Agrees ss ts doc other

-- two terms
term_cmp-agree : (s t : SortTerm) (a b c d : Doc) → s.descending ≡ t.descending
    → value_at s.field a ≡ value_at t.field c → value_at s.field b ≡ value_at t.field d
    → term_cmp s a b ≡ term_cmp t c d
term_cmp-agree s t a b c d e p q = rw (e, p, q) refl

-- two sorts
pub sort_cmp-agree : (ss ts : List SortTerm) (a b c d : Doc) → Agrees ss ts a c
    → Agrees ss ts b d → sort_cmp ss a b ≡ sort_cmp ts c d
sort_cmp-agree [] [] a b c d p q = refl
sort_cmp-agree [] (t ∷ ts) a b c d p q = absurd p
sort_cmp-agree (s ∷ ss) [] a b c d p q = absurd p
sort_cmp-agree (s ∷ ss) (t ∷ ts) a b c d p q =
    ap (λ (o : Ordering). ordering_then o (sort_cmp ss a b))
    (term_cmp-agree s t a b c d p.0 p.1 q.1)
    ∙ ap (ordering_then (term_cmp t c d)) (sort_cmp-agree ss ts a b c d p.2 q.2)

-- which comes before
pub less-agree : (ss ts : List SortTerm) (a b c d : Doc) → Agrees ss ts a c → Agrees ss ts b d
    → less ts c d ≡ less ss a b
unfolding less
less-agree ss ts a b c d p q = ap is_lt (sym (sort_cmp-agree ss ts a b c d p q))

-- one sort, and documents with the same values in each of its fields
pub agree_by : (terms : List SortTerm) (a b : Doc)
    → AllByRecursion (λ t. value_at t.field a ≡ value_at t.field b) terms → Agrees terms terms a b
agree_by [] a b e = tt
agree_by (t ∷ ts) a b e = (refl, e.0, agree_by ts a b e.1)

-- what is equal is equal
pub equal_of : (o : Ordering) → is_eq o ≡ true → o ≡ Equal
equal_of Less e = absurd (cc)
equal_of Equal e = refl
equal_of Greater e = absurd (cc)

-- values that may be absent and compare equal are the same
pub option_same : (a b : Option Datum) → option_cmp datum_cmp a b ≡ Equal → a ≡ b
option_same None None e = refl
option_same None (Some y) e = absurd (cc)
option_same (Some x) None e = absurd (cc)
option_same (Some x) (Some y) e = ap (λ (v : Datum). Some v) (datum_cmp_same x y e)

-- so fields that compare equal have the same value
pub field_same : (name : ByteList) (a b : Doc) → is_eq (field_cmp name a b) ≡ true
    → value_at name a ≡ value_at name b
field_same name a b e =
    option_same (value_at name a) (value_at name b) (equal_of (field_cmp name a b) e)

-- either of two tests, by which is true
named_by : {P : Type 0} (a b : Bool) → (a || b) ≡ true → (a ≡ true → P) → (b ≡ true → P) → P
named_by true b e f g = f refl
named_by false b e f g = g e

-- documents of one key have the same value in each of its fields
pub same_key-same : (names : List ByteList) (a b : Doc) → same_key names a b ≡ true
    → (name : ByteList) → is_named name names ≡ true → value_at name a ≡ value_at name b
same_key-same [] a b e name n = absurd (cc)
same_key-same (first ∷ names) a b e name n =
    let here = and_first (is_eq (field_cmp first a b)) (same_key names a b) e in
    let later = and_second (is_eq (field_cmp first a b)) (same_key names a b) e in
    named_by (bytes_eq first name) (is_named name names) n
    (λ is. ap (λ (m : ByteList). value_at m a) (sym (same_bytes first name is))
    ∙ field_same first a b here
    ∙ ap (λ (m : ByteList). value_at m b) (same_bytes first name is))
    (λ more. same_key-same names a b later name more)

-- a name that is told another isn't compared equal
pub other_cmp : (a b : ByteList) → bytes_eq a b ≡ false → bytes_cmp a b ≢ Equal
other_cmp a b e i =
    let t = ap (bytes_eq a) (bytes_same a b i) in
    let s = itself_bytes a in absurd (cc)

-- a value under another name isn't seen
pub value_put-other : (name other : ByteList) (v : Datum) (doc : Doc) → bytes_eq other name ≡ false
    → value_at name (put other v doc) ≡ value_at name doc
value_put-other name other v doc e = value_put_other name other v doc (other_cmp other name e)

-- what a lookup sees past a first field of another name
pub past_other : (name : ByteList) (f : ByteList × Datum) (doc : Doc) → bytes_eq f.0 name ≡ false
    → value_at name (f ∷ doc) ≡ value_at name doc
past_other name f doc e = rw e refl

-- nor is a field of another name that is taken away
pub value_without-other : (name other : ByteList) (doc : Doc) → bytes_eq other name ≡ false
    → value_at name (without other doc) ≡ value_at name doc
value_without-other name other [] e = refl
value_without-other name other (f ∷ doc) e =
    go (bytes_cmp f.0 other) refl (value_without-other name other doc e)
  where
    go : (o : Ordering) → bytes_cmp f.0 other ≡ o
        → value_at name (without other doc) ≡ value_at name doc
        → value_at name (put_by o (f ∷ without other doc) doc (f ∷ without other doc))
        ≡ value_at name (f ∷ doc)
    go Less i later = ap (λ (r : Option Datum). if bytes_eq f.0 name then Some f.1 else r) later
    go Greater i later = ap (λ (r : Option Datum). if bytes_eq f.0 name then Some f.1 else r) later
    go Equal i later =
        sym
        (past_other name f doc
        (ap (λ (m : ByteList). bytes_eq m name) (bytes_same f.0 other i) ∙ e))

-- a document that is cut to names keeps each of them
value_cut_by : (name : ByteList) (names : List ByteList) (f : ByteList × Datum) (doc cut : Doc)
    (kept here : Bool) → is_named f.0 names ≡ kept → bytes_eq f.0 name ≡ here
    → is_named name names ≡ true → value_at name cut ≡ value_at name doc
    → value_at name (if kept then f ∷ cut else cut) ≡ (if here then Some f.1 else value_at name doc)
value_cut_by name names f doc cut true here k h n later =
    rw h (ap (λ (r : Option Datum). if here then Some f.1 else r) later)
value_cut_by name names f doc cut false true k h n later =
    let e = ap (λ (m : ByteList). is_named m names) (same_bytes f.0 name h) in absurd (cc)
value_cut_by name names f doc cut false false k h n later = later

-- for all fields
pub value_cut : (name : ByteList) (names : List ByteList) (doc : Doc) → is_named name names ≡ true
    → value_at name (cut_to names doc) ≡ value_at name doc
value_cut name names [] n = refl
value_cut name names (f ∷ doc) n =
    value_cut_by name names f doc (cut_to names doc) (is_named f.0 names) (bytes_eq f.0 name) refl
    refl n (value_cut name names doc n)
