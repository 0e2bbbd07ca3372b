-- What a sort writes is an order.
use Rattle.std.proofs.Common.{◌≡◌, List, [], ◌∷◌, Bool, true, false, refl, ◌∙◌, ap, sym}
use Rattle.std.specs.Cmp.{IsTotalOrder, IsStrictWeakOrder}
use Rattle.std.specs.Cmp.Lexicographic.{options_total}
use Rattle.std.specs.Ordering.{ordering_reverse}
use Rattle.std.specs.declared.cmp.Ordering.{Ordering}
use Rattle.std.specs.declared.cmp.Ordering.TheVariants.{Less, Equal, Greater}
use Rattle.std.proofs.lemmas.Cmp.{on_total, then_total}
use Rattle.std.proofs.lemmas.List.MinMax.{ranks_by}
use Rattle.tuple_values.specs.Document.{ByteList, value_at}
use Rattle.tuple_values.proofs.OrderLemmas.{datum_cmp_total}
use Rattle.sort_spec.specs.Terms.{field_cmp, term_cmp, sort_cmp, less}
use Rattle.sort_spec.specs.declared.term.SortTerm.{SortTerm}

-- the order of values of a field
pub field_cmp_total : (field : ByteList) → IsTotalOrder (field_cmp field)
field_cmp_total field = on_total (λ doc. value_at field doc) (options_total datum_cmp_total)

-- an order from its end is one
pub reversed_total : {K : Type 0} (cmp : K → K → Ordering) → IsTotalOrder cmp
    → IsTotalOrder (λ x y. ordering_reverse (cmp x y))
reversed_total cmp o =
    let back : (x y : _) → cmp y x ≡ ordering_reverse (cmp x y) = λ x y. o.antisymm y x in
    record {
      antisymm = λ x y. ap ordering_reverse (o.antisymm x y);
      trans = λ x y z p q. sym (back x z) ∙ o.trans z y x (back y z ∙ q) (back x y ∙ p);
      congr = λ x y z p. ap ordering_reverse (o.congr x y z (same_way (cmp x y) p));
    } where
      same_way : (order : Ordering) → ordering_reverse order ≡ Equal → order ≡ Equal
      same_way Less p = cc
      same_way Equal p = refl
      same_way Greater p = cc

-- the order by a term
term_cmp_total_by : (field : ByteList) (descending : Bool)
    → IsTotalOrder (term_cmp (record { field = field; descending = descending }))
term_cmp_total_by field true = reversed_total (field_cmp field) (field_cmp_total field)
term_cmp_total_by field false = field_cmp_total field

-- for every term
pub term_cmp_total : (term : SortTerm) → IsTotalOrder (term_cmp term)
term_cmp_total term = term_cmp_total_by term.field term.descending

-- the order by a sort
pub sort_cmp_total : (terms : List SortTerm) → IsTotalOrder (sort_cmp terms)
sort_cmp_total [] = record {
  antisymm = λ a b. refl;
  trans = λ a b c p q. absurd (cc);
  congr = λ a b c p. refl;
}
sort_cmp_total (term ∷ terms) = then_total (term_cmp_total term) (sort_cmp_total terms)

-- to come before by a sort is a strict weak order
pub less_is_weak : (terms : List SortTerm) → IsStrictWeakOrder (less terms)
unfolding less
less_is_weak terms = ranks_by (sort_cmp_total terms) (λ doc. doc)
