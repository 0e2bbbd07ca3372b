-- Keys and the sorts that begin with their fields.
use Rattle.std.proofs.Common.{◌≡◌, List, [], ◌∷◌, ◌++◌, Bool, true, false, not, ◌&&◌, map}
use Rattle.std.proofs.Common.{if◌then◌else◌, refl, sym, ◌∙◌, ap}
use Rattle.std.specs.List.{list_all}
use Rattle.std.specs.List.Sorted.{ties}
use Rattle.std.specs.Ordering.{ordering_reverse, ordering_then, is_eq, is_lt}
use Rattle.std.specs.declared.cmp.Ordering.{Ordering}
use Rattle.std.specs.declared.cmp.Ordering.TheVariants.{Less, Equal, Greater}
use Rattle.tuple_values.specs.Document.{ByteList, Doc}
use Rattle.sort_spec.specs.Sorting.{IsAscending}
use Rattle.sort_spec.specs.Terms.{field_cmp, term_cmp, sort_cmp, less}
use Rattle.sort_spec.specs.declared.term.SortTerm.{SortTerm}
use Rattle.sort_spec.proofs.SortLemmas.{each_weaker}
use Rattle.sort_spec.proofs.TermLemmas.{sort_cmp_total}
use Rattle.expr_types.specs.Groups.{same_key}

-- what isn't less by a first order and then another isn't less by the first
first_not_less : (first later : Ordering) → is_lt (ordering_then first later) ≡ false
    → is_lt first ≡ false
first_not_less Less later e = absurd (cc)
first_not_less Equal later e = refl
first_not_less Greater later e = refl

-- terms and then more terms compare by the terms and then by the others
then-assoc : (a b c : Ordering) → ordering_then a (ordering_then b c)
    ≡ ordering_then (ordering_then a b) c
then-assoc Less b c = refl
then-assoc Equal b c = refl
then-assoc Greater b c = refl

-- so does a whole sort
sort_cmp-append : (terms more : List SortTerm) (a b : Doc)
    → sort_cmp (terms ++ more) a b ≡ ordering_then (sort_cmp terms a b) (sort_cmp more a b)
sort_cmp-append [] more a b = refl
sort_cmp-append (term ∷ terms) more a b =
    ap (ordering_then (term_cmp term a b)) (sort_cmp-append terms more a b)
    ∙ then-assoc (term_cmp term a b) (sort_cmp terms a b) (sort_cmp more a b)

-- what doesn't come before by terms and more doesn't by the terms
pub not_less_by_first : (terms more : List SortTerm) (a b : Doc)
    → less (terms ++ more) a b ≡ false → less terms a b ≡ false
unfolding less
not_less_by_first terms more a b e =
    first_not_less (sort_cmp terms a b) (sort_cmp more a b)
    (sym (ap is_lt (sort_cmp-append terms more a b)) ∙ e)

-- documents in the order of terms and more are in the order of the terms
pub ascends_by_first : (terms more : List SortTerm) (docs : List Doc)
    → IsAscending (less (terms ++ more)) docs → IsAscending (less terms) docs
ascends_by_first terms more [] a = tt
ascends_by_first terms more (doc ∷ docs) a = (
  each_weaker (λ y. less (terms ++ more) y doc ≡ false) (λ y. less terms y doc ≡ false) docs
      (λ y e. not_less_by_first terms more y doc e) a.0,
  ascends_by_first terms more docs a.1,
)

-- equal the other way round
is_eq-reverse : (order : Ordering) → is_eq (ordering_reverse order) ≡ is_eq order
is_eq-reverse Less = refl
is_eq-reverse Equal = refl
is_eq-reverse Greater = refl

-- equal by both orders
is_eq-then : (a b : Ordering) → is_eq (ordering_then a b) ≡ (is_eq a && is_eq b)
is_eq-then Less b = refl
is_eq-then Equal b = refl
is_eq-then Greater b = refl

-- a direction doesn't matter for what is equal
is_eq-term_by : (descending : Bool) (order : Ordering)
    → is_eq (if descending then ordering_reverse order else order) ≡ is_eq order
is_eq-term_by true order = is_eq-reverse order
is_eq-term_by false order = refl

-- equal by a sort is equal in the field of each term
is_eq-sort_cmp : (terms : List SortTerm) (a b : Doc) → is_eq (sort_cmp terms a b)
    ≡ list_all (λ name. is_eq (field_cmp name a b)) (map (λ term. term.field) terms)
is_eq-sort_cmp [] a b = refl
is_eq-sort_cmp (term ∷ terms) a b =
    is_eq-then (term_cmp term a b) (sort_cmp terms a b)
    ∙ ap (λ w. w && is_eq (sort_cmp terms a b))
    (is_eq-term_by term.descending (field_cmp term.field a b))
    ∙ ap (λ w. is_eq (field_cmp term.field a b) && w) (is_eq-sort_cmp terms a b)

-- what is less in neither direction is equal
neither_less : (order back : Ordering) → order ≡ ordering_reverse back
    → (not (is_lt order) && not (is_lt back)) ≡ is_eq order
neither_less order Less e = rw e refl
neither_less order Equal e = rw e refl
neither_less order Greater e = rw e refl

-- documents tie by a sort exactly where they have the same key, by the fields of its terms
pub same_key-ties : (names : List ByteList) (terms : List SortTerm)
    → map (λ term. term.field) terms ≡ names → (a b : Doc)
    → same_key names a b ≡ ties (less terms) a b
unfolding less
same_key-ties names terms e a b =
    ap (λ w. list_all (λ name. is_eq (field_cmp name a b)) w) (sym e)
    ∙ sym (is_eq-sort_cmp terms a b)
    ∙ sym (neither_less (sort_cmp terms a b) (sort_cmp terms b a)
    ((sort_cmp_total terms).antisymm a b))
