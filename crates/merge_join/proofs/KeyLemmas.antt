-- What the order of keys says of documents that are in order.
use Rattle.std.proofs.Common.{◌≡◌, List, [], ◌∷◌, Bool, true, false, ◌&&◌, refl, ◌∙◌, ap, sym}
use Rattle.std.specs.List.{AllByRecursion}
use Rattle.std.specs.Cmp.{IsTotalOrder, IsStrictWeakOrder}
use Rattle.std.specs.Cmp.Lexicographic.{options_total}
use Rattle.std.specs.Ordering.{ordering_reverse, ordering_then, is_eq, is_lt}
use Rattle.std.specs.declared.cmp.Ordering.{Ordering}
use Rattle.std.specs.declared.cmp.Ordering.TheVariants.{Less, Equal, Greater}
use Rattle.std.proofs.lemmas.Cmp.{on_total, then_total}
use Rattle.std.proofs.lemmas.List.MinMax.{ranks_by}
use Rattle.tuple_values.specs.Document.{Doc}
use Rattle.tuple_values.proofs.OrderLemmas.{datum_cmp_total}
use Rattle.sort_spec.specs.Sorting.{IsAscending}
use Rattle.sort_spec.specs.Terms.{sort_cmp, less}
use Rattle.sort_spec.specs.declared.pair.OnPair.{OnPair}
use Rattle.sort_spec.specs.declared.term.SortTerm.{SortTerm}
use Rattle.sort_spec.proofs.SortLemmas.{each_weaker}
use Rattle.sort_spec.proofs.StableLemmas.{below}
use Rattle.expr_types.specs.Joins.{is_met, matches, left_names, right_names}
use Rattle.expr_types.specs.Orders.{sort_over}
use Rattle.merge_join.specs.Keys.{Key, left_key, right_key, key_cmp, directed, order_of, meets}
use Rattle.merge_join.specs.Keys.{left_order, right_order, terms_of}
use Rattle.merge_join.specs.declared.term.JoinTerm.{JoinTerm}

-- an order from its end is one
directed_total : {K : Type 0} (descending : Bool) (cmp : K → K → Ordering) → IsTotalOrder cmp
    → IsTotalOrder (λ x y. directed descending (cmp x y))
directed_total false cmp o = o
directed_total true cmp o =
    let back : (x y : _) → cmp y x ≡ ordering_reverse (cmp x y) = λ x y. o.antisymm y x in
    record {
      antisymm = λ x y. ap ordering_reverse (o.antisymm x y);
      trans = λ x y z p q. sym (back x z) ∙ o.trans z y x (back y z ∙ q) (back x y ∙ p);
      congr = λ x y z p. ap ordering_reverse (o.congr x y z (same_way (cmp x y) p));
    } where
      same_way : (order : Ordering) → ordering_reverse order ≡ Equal → order ≡ Equal
      same_way Less p = cc
      same_way Equal p = refl
      same_way Greater p = cc

-- the order of keys is total
key_cmp_total : (terms : List JoinTerm) → IsTotalOrder (key_cmp terms)
key_cmp_total [] = record {
  antisymm = λ a b. refl;
  trans = λ a b c p q. absurd (cc);
  congr = λ a b c p. refl;
}
key_cmp_total (t ∷ terms) =
    then_total
    (directed_total t.descending _
    (on_total (λ (key : Key). key t) (options_total datum_cmp_total)))
    (key_cmp_total terms)

-- the left documents are in the order of their keys
left_cmp : (terms : List JoinTerm) (a b : Doc)
    → sort_cmp (left_order terms) a b ≡ key_cmp terms (left_key a) (left_key b)
left_cmp [] a b = refl
left_cmp (t ∷ terms) a b = ap (ordering_then _) (left_cmp terms a b)

-- and so are the right ones
right_cmp : (terms : List JoinTerm) (a b : Doc)
    → sort_cmp (right_order terms) a b ≡ key_cmp terms (right_key a) (right_key b)
right_cmp [] a b = refl
right_cmp (t ∷ terms) a b = ap (ordering_then _) (right_cmp terms a b)

-- a key comes before another
key_less : List JoinTerm → Key → Key → Bool
key_less terms a b = is_lt (key_cmp terms a b)

key_less_weak : (terms : List JoinTerm) → IsStrictWeakOrder (key_less terms)
unfolding key_less
key_less_weak terms = ranks_by (key_cmp_total terms) (λ key. key)

-- a document that comes before another doesn't match it
less_no_match : (order : Ordering) → is_lt order ≡ true → is_eq order ≡ false
less_no_match Less e = refl
less_no_match Equal e = absurd (cc)
less_no_match Greater e = absurd (cc)

-- nor does one that comes behind it
more_no_match : (order back : Ordering) → order ≡ ordering_reverse back → is_lt back ≡ true
    → is_eq order ≡ false
more_no_match order Less e f = rw e refl
more_no_match order Equal e f = absurd (cc)
more_no_match order Greater e f = absurd (cc)

-- an order that is the other way round
back_of : (order back : Ordering) → back ≡ ordering_reverse order → order ≡ Greater
    → is_lt back ≡ true
back_of order back e f = rw (e, f) refl

-- a right document that comes before a left one matches none from there on
pub none_before : (terms : List JoinTerm) (left : Doc) (lefts : List Doc) (right : Doc)
    → order_of terms left right ≡ Greater
    → IsAscending (less (left_order terms)) (left ∷ lefts)
    → AllByRecursion (λ l. meets terms l right ≡ false) (left ∷ lefts)
unfolding less key_less
none_before terms left lefts right e a =
    let total = key_cmp_total terms in
    let l = left_key left in
    let r = right_key right in
    let before : is_lt (key_cmp terms r l) ≡ true =
    back_of (key_cmp terms l r) (key_cmp terms r l) (total.antisymm r l) e in (
      more_no_match (key_cmp terms l r) (key_cmp terms r l) (total.antisymm l r) before,
      each_weaker (λ m. less (left_order terms) m left ≡ false)
          (λ m. meets terms m right ≡ false) lefts
          (λ m f. more_no_match (key_cmp terms (left_key m) r) (key_cmp terms r (left_key m))
          (total.antisymm (left_key m) r)
          (below (key_less terms) (key_less_weak terms) r l (left_key m) before
          (sym (ap is_lt (left_cmp terms m left)) ∙ f)))
          a.0,
    )

-- a left document that comes before a right one matches none from there on
pub none_behind : (terms : List JoinTerm) (left right : Doc) (rights : List Doc)
    → order_of terms left right ≡ Less
    → IsAscending (less (right_order terms)) (right ∷ rights)
    → AllByRecursion (λ r. meets terms left r ≡ false) (right ∷ rights)
unfolding less key_less
none_behind terms left right rights e a =
    let l = left_key left in
    let r = right_key right in
    let before : is_lt (key_cmp terms l r) ≡ true = ap is_lt e in (
      less_no_match (key_cmp terms l r) before,
      each_weaker (λ q. less (right_order terms) q right ≡ false)
          (λ q. meets terms left q ≡ false) rights
          (λ q f. less_no_match (key_cmp terms l (right_key q))
          (below (key_less terms) (key_less_weak terms) l r (right_key q) before
          (sym (ap is_lt (right_cmp terms q right)) ∙ f)))
          a.0,
    )

-- an order, the other way round or not, is equal where it is
directed_eq : (descending : Bool) (order : Ordering)
    → is_eq (directed descending order) ≡ is_eq order
directed_eq false order = refl
directed_eq true Less = refl
directed_eq true Equal = refl
directed_eq true Greater = refl

-- two that follow one another are equal where both are
then_eq : (first second : Ordering)
    → is_eq (ordering_then first second) ≡ (is_eq first && is_eq second)
then_eq Less second = refl
then_eq Equal second = refl
then_eq Greater second = refl

-- keys are equal where the values of all pairs are
pub meets-matches : (on : List OnPair) (order : List SortTerm) (left right : Doc)
    → meets (terms_of on order) left right ≡ matches on left right
meets-matches [] order left right = refl
meets-matches (pair ∷ on) [] left right =
    then_eq _ (order_of (terms_of on []) left right)
    ∙ ap (λ b. is_met pair left right && b) (meets-matches on [] left right)
meets-matches (pair ∷ on) (term ∷ order) left right =
    then_eq (directed term.descending _) (order_of (terms_of on order) left right)
    ∙ ap (λ b. b && meets (terms_of on order) left right) (directed_eq term.descending _)
    ∙ ap (λ b. is_met pair left right && b) (meets-matches on order left right)

-- keys that are equal compare alike with any other
along : (terms : List JoinTerm) (c a b : Key) → key_cmp terms a b ≡ Equal
    → key_cmp terms c a ≡ key_cmp terms c b
along terms c a b e =
    let total = key_cmp_total terms in
    total.antisymm c a ∙ ap ordering_reverse (total.congr a b c e) ∙ sym (total.antisymm c b)

-- a left document compares alike with right ones of one key
pub order_of-tied : (terms : List JoinTerm) (left right other : Doc)
    → key_cmp terms (right_key right) (right_key other) ≡ Equal
    → order_of terms left right ≡ order_of terms left other
order_of-tied terms left right other e =
    along terms (left_key left) (right_key right) (right_key other) e

-- an order is equal where the test says so
eq_is : (order : Ordering) → is_eq order ≡ true → order ≡ Equal
eq_is Less e = absurd (cc)
eq_is Equal e = refl
eq_is Greater e = absurd (cc)

-- right documents that match one left document have one key
pub tied_by : (terms : List JoinTerm) (left right other : Doc) → meets terms left right ≡ true
    → meets terms left other ≡ true → key_cmp terms (right_key right) (right_key other) ≡ Equal
tied_by terms left right other e f =
    sym ((key_cmp_total terms).congr (left_key left) (right_key right) (right_key other)
    (eq_is (order_of terms left right) e))
    ∙ eq_is (order_of terms left other) f

-- no left document behind one that matches a right one comes before that
pub none_less : (terms : List JoinTerm) (left : Doc) (lefts : List Doc) (right : Doc)
    → meets terms left right ≡ true → IsAscending (less (left_order terms)) (left ∷ lefts)
    → AllByRecursion (λ l. is_lt (order_of terms l right) ≡ false) lefts
unfolding less
none_less terms left lefts right e a =
    each_weaker (λ m. less (left_order terms) m left ≡ false)
    (λ m. is_lt (order_of terms m right) ≡ false) lefts
    (λ m f. ap is_lt (sym (along terms (left_key m) (left_key left) (right_key right)
    (eq_is (order_of terms left right) e)))
    ∙ sym (ap is_lt (left_cmp terms m left)) ∙ f)
    a.0

-- with names as a sort in some directions the left documents are read in that sort
pub left_order-sort_over : (on : List OnPair) (directions : List Bool)
    → left_order (terms_of on (sort_over (left_names on) directions))
    ≡ sort_over (left_names on) directions
left_order-sort_over [] directions = refl
left_order-sort_over (pair ∷ on) [] =
    ap (λ (l : List SortTerm). record { field = pair.left; descending = false } ∷ l)
    (left_order-sort_over on [])
left_order-sort_over (pair ∷ on) (descending ∷ directions) =
    ap (λ (l : List SortTerm). record { field = pair.left; descending = descending } ∷ l)
    (left_order-sort_over on directions)

-- and the right ones in the sort of the right names in these directions
pub right_order-sort_over : (on : List OnPair) (directions : List Bool)
    → right_order (terms_of on (sort_over (left_names on) directions))
    ≡ sort_over (right_names on) directions
right_order-sort_over [] directions = refl
right_order-sort_over (pair ∷ on) [] =
    ap (λ (l : List SortTerm). record { field = pair.right; descending = false } ∷ l)
    (right_order-sort_over on [])
right_order-sort_over (pair ∷ on) (descending ∷ directions) =
    ap (λ (l : List SortTerm). record { field = pair.right; descending = descending } ∷ l)
    (right_order-sort_over on directions)
