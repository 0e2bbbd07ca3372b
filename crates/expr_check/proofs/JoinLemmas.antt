-- What joins give is in the left order, as far as it is told, and their inputs are in the order of
-- their pairs.
use Rattle.std.proofs.Common.{◌≡◌, List, [], ◌∷◌, ◌++◌, Bool, true, false, not, ◌||◌, cond}
use Rattle.std.proofs.Common.{Option, Some, None, refl, sym, ◌∙◌, ap, subst, arith}
use Rattle.std.specs.Prelude.{bytes_eq}
use Rattle.std.specs.List.{AllByRecursion, list_any}
use Rattle.std.specs.Option.{option_or}
use Rattle.std.specs.Ordering.{is_lt}
use Rattle.std.proofs.lemmas.Cmp.{tied_itself}
use Rattle.tuple_values.specs.Document.{ByteList, Datum, Doc, is_named, value_at}
use Rattle.sort_spec.specs.Sorting.{IsAscending}
use Rattle.sort_spec.specs.Terms.{less}
use Rattle.sort_spec.proofs.SortLemmas.{each_weaker}
use Rattle.sort_spec.proofs.TermLemmas.{sort_cmp_total}
use Rattle.sort_spec.specs.declared.pair.OnPair.{OnPair}
use Rattle.sort_spec.specs.declared.term.SortTerm.{SortTerm}
use Rattle.expr_types.specs.ExprTree.{first_or, second_or}
use Rattle.expr_types.specs.Joins.{is_met, matches, joined, pairs, is_kept, exist_list}
use Rattle.expr_types.specs.Joins.{left_names, right_names, AreJoinable}
use Rattle.expr_types.specs.Orders.{sort_over}
use Rattle.expr_types.proofs.JoinLemmas.{value_joined}
use Rattle.expr_types.proofs.OrderLemmas.{ascends_by_first}
use Rattle.expr_check.specs.Faults.{names_fault, right_fault, join_fault}
use Rattle.expr_check.specs.Fields.{HasOnly, HaveOnly}
use Rattle.expr_check.specs.Needs.{names_first, meets_sort}
use Rattle.expr_check.specs.Orders.{IsInOrder, AreInOrder, is_paired, keeps_field, joined_terms}
use Rattle.expr_check.specs.Orders.{joined_order, directions, directions_of}
use Rattle.expr_check.specs.declared.order.Order.{Order}
use Rattle.expr_check.specs.declared.order.Order.TheVariants.{Any, By}
use Rattle.expr_check.proofs.AgreeLemmas.{Agrees, agree_by, less-agree, equal_of, option_same}
use Rattle.expr_check.proofs.AscendLemmas.{ascends_filter, ascends_short, each_of, shorter-filter}
use Rattle.expr_check.proofs.FaultLemmas.{none_first, none_second, names_met, sort_met}
use Rattle.expr_check.proofs.NeedLemmas.{and_first, and_second, same_bytes, are_first-prefix}
use Rattle.expr_check.proofs.PairLemmas.{pairs_ascend}

-- by no term no document comes before another
less-none : (a b : Doc) → less [] a b ≡ false
unfolding less
less-none a b = refl

-- so documents are in the order of no term
ascends_none : (docs : List Doc) → IsAscending (less []) docs
ascends_none [] = tt
ascends_none (doc ∷ docs) =
    (each_of (λ other. less [] other doc ≡ false) docs (λ other. less-none other doc), ascends_none docs)

-- no document comes before itself
less-itself : (terms : List SortTerm) (doc : Doc) → less terms doc doc ≡ false
unfolding less
less-itself terms doc = ap is_lt (tied_itself (sort_cmp_total terms) doc)

-- documents that match have one value in a field that a pair names on both sides
matched_same : (on : List OnPair) (field : ByteList) (left right : Doc)
    → list_any (is_paired field) on ≡ true → matches on left right ≡ true
    → value_at field left ≡ value_at field right
matched_same [] field left right named met = absurd (cc)
matched_same (pair ∷ on) field left right named met =
    go (is_paired field pair) refl named
    (λ later. matched_same on field left right later (and_second (is_met pair left right) _ met))
  where
    go : (b : Bool) → is_paired field pair ≡ b → (b || list_any (is_paired field) on) ≡ true
        → (list_any (is_paired field) on ≡ true → value_at field left ≡ value_at field right)
        → value_at field left ≡ value_at field right
    go true e named later =
        let one = same_bytes pair.left field (and_first (bytes_eq pair.left field) _ e) in
        let other = same_bytes pair.right field (and_second (bytes_eq pair.left field) _ e) in
        ap (λ (name : ByteList). value_at name left) (sym one)
        ∙ option_same (value_at pair.left left) (value_at pair.right right)
        (equal_of _ (and_first (is_met pair left right) _ met))
        ∙ ap (λ (name : ByteList). value_at name right) other
    go false e named later = later named

-- a value that both may have is the first that there is
same_first : (a b : Option Datum) → a ≡ b → a ≡ option_or b a
same_first a None e = refl
same_first a (Some v) e = e

-- a field that keeps its value has that of the left document
kept_value : (on : List OnPair) (names : List ByteList) (field : ByteList) (left right : Doc)
    → keeps_field on names field ≡ true → HasOnly names right → matches on left right ≡ true
    → value_at field left ≡ value_at field (joined left right)
kept_value on names field left right keeps only met =
    go (is_named field names) refl keeps ∙ sym (value_joined field left right)
  where
    go : (b : Bool) → is_named field names ≡ b
        → (not b || list_any (is_paired field) on) ≡ true
        → value_at field left ≡ option_or (value_at field right) (value_at field left)
    go true e named =
        same_first (value_at field left) (value_at field right)
        (matched_same on field left right named met)
    go false e named =
        sym (ap (λ (v : Option Datum). option_or v (value_at field left)) (only field e))

-- the terms that are kept are the first of the terms
joined_parted : (on : List OnPair) (names : List ByteList) (terms : List SortTerm)
    → (more : List SortTerm) × (terms ≡ joined_terms on names terms ++ more)
joined_parted on names [] = ([], refl)
joined_parted on names (term ∷ terms) =
    go (keeps_field on names term.field) (joined_parted on names terms)
  where
    go : (b : Bool) → (more : List SortTerm) × (terms ≡ joined_terms on names terms ++ more)
        → (more : List SortTerm)
        × (term ∷ terms ≡ cond b (term ∷ joined_terms on names terms) [] ++ more)
    go true later = (later.0, ap (λ (l : List SortTerm). term ∷ l) later.1)
    go false later = (term ∷ terms, refl)

-- and their fields keep their values
all_keep : (on : List OnPair) (names : List ByteList) (terms : List SortTerm)
    → AllByRecursion (λ term. keeps_field on names term.field ≡ true) (joined_terms on names terms)
all_keep on names [] = tt
all_keep on names (term ∷ terms) =
    go (keeps_field on names term.field) refl (all_keep on names terms)
  where
    go : (b : Bool) → keeps_field on names term.field ≡ b
        → AllByRecursion (λ t. keeps_field on names t.field ≡ true) (joined_terms on names terms)
        → AllByRecursion (λ t. keeps_field on names t.field ≡ true)
        (cond b (term ∷ joined_terms on names terms) [])
    go true e later = (e, later)
    go false e later = tt

-- what is joined agrees with its left document by them
joined_agrees : (on : List OnPair) (names : List ByteList) (terms : List SortTerm)
    (left right : Doc) → HasOnly names right → matches on left right ≡ true
    → Agrees (joined_terms on names terms) (joined_terms on names terms) left (joined left right)
joined_agrees on names terms left right only met =
    agree_by (joined_terms on names terms) left (joined left right)
    (each_weaker (λ term. keeps_field on names term.field ≡ true)
    (λ term. value_at term.field left ≡ value_at term.field (joined left right))
    (joined_terms on names terms)
    (λ term keeps. kept_value on names term.field left right keeps only met)
    (all_keep on names terms))

-- a document agrees with itself
itself_agrees : (terms : List SortTerm) (doc : Doc) → Agrees terms terms doc doc
itself_agrees terms doc =
    agree_by terms doc doc
    (each_of (λ term. value_at term.field doc ≡ value_at term.field doc) terms (λ term. refl))

module _ (alone : Doc → List Doc)
    (by_itself : (terms : List SortTerm) (left : Doc)
    → AllByRecursion (Agrees terms terms left) (alone left)) where
  -- what a join gives is in the left order, as far as it stays
  pub joined_in_order : (on : List OnPair) (names : List ByteList) (order : Order)
      (lefts rights : List Doc) → IsInOrder order lefts → HaveOnly names rights
      → IsInOrder (joined_order on names order) (pairs alone (matches on) joined lefts rights)
  joined_in_order on names Any lefts rights a only =
      ascends_none (pairs alone (matches on) joined lefts rights)
  joined_in_order on names (By terms) lefts rights a only =
      let kept = joined_terms on names terms in
      let parted = joined_parted on names terms in
      pairs_ascend alone (matches on) joined (HasOnly names) (less kept) (less kept)
      (λ left made. Agrees kept kept left made)
      (λ x y made other p q. less-agree kept kept x y made other p q) (less-itself kept)
      (by_itself kept)
      (λ left right fits met. joined_agrees on names terms left right fits met) lefts rights only
      (ascends_by_first kept parted.0 lefts
      (subst (λ (l : List SortTerm). IsAscending (less l) lefts) parted.1 a))

-- a left document alone is nothing or itself
pub none_agree : (terms : List SortTerm) (left : Doc)
    → AllByRecursion (Agrees terms terms left) []
none_agree terms left = tt

pub one_agrees : (terms : List SortTerm) (left : Doc)
    → AllByRecursion (Agrees terms terms left) (left ∷ [])
one_agrees terms left = (itself_agrees terms left, tt)

-- those that have a match, or that have none, stay in order
pub existing_in_order : (keep : Bool) (on : List OnPair) (order : Order) (lefts rights : List Doc)
    → IsInOrder order lefts → IsInOrder order (exist_list keep on lefts rights)
existing_in_order keep on Any lefts rights a =
    let h = shorter-filter (λ left. is_kept keep (list_any (matches on left) rights)) lefts in
    omega arith
existing_in_order keep on (By terms) lefts rights a =
    ascends_filter (less terms) (λ left. is_kept keep (list_any (matches on left) rights)) lefts a

-- terms whose first fields are these names are first those names in the terms' directions
named_parted : (names : List ByteList) (terms : List SortTerm) → names_first names terms ≡ true
    → (more : List SortTerm) × (terms ≡ sort_over names (directions terms) ++ more)
named_parted [] terms e = (terms, refl)
named_parted (name ∷ names) [] e = absurd (cc)
named_parted (name ∷ names) (term ∷ terms) e =
    let is = same_bytes term.field name (and_first (bytes_eq term.field name) _ e) in
    let later = named_parted names terms (and_second (bytes_eq term.field name) _ e) in (
      later.0,
      ap (λ (n : ByteList). record { field = n; descending = term.descending } ∷ terms) is
          ∙ ap (λ (l : List SortTerm). record { field = name; descending = term.descending } ∷ l)
          later.1,
    )

-- so documents in their order are in that of the names
named_ascends : (names : List ByteList) (terms : List SortTerm) (docs : List Doc)
    → names_first names terms ≡ true → IsAscending (less terms) docs
    → IsAscending (less (sort_over names (directions terms))) docs
named_ascends names terms docs e a =
    let parted = named_parted names terms e in
    ascends_by_first (sort_over names (directions terms)) parted.0 docs
    (subst (λ (l : List SortTerm). IsAscending (less l) docs) parted.1 a)

-- an input that has a sort as first terms is in its order
pub sort_ascends : (on : List SortTerm) (order : Order) (docs : List Doc) → meets_sort on order ≡ true
    → IsInOrder order docs → IsAscending (less on) docs
sort_ascends on Any docs e a = ascends_short (less on) docs a
sort_ascends on (By terms) docs e a =
    let parted = are_first-prefix on terms e in
    ascends_by_first on parted.0 docs
    (subst (λ (l : List SortTerm). IsAscending (less l) docs) parted.1 a)

-- a join without a fault has none at its left input
left_met : (function : ByteList) (on : List OnPair) (orders : List Order)
    → join_fault function on orders ≡ None
    → names_fault function (left_names on) (first_or Any orders) ≡ None
left_met function on orders e =
    none_first (names_fault function (left_names on) (first_or Any orders))
    (right_fault function on (first_or Any orders) (second_or Any orders)) e

-- nor at its right one
right_met : (function : ByteList) (on : List OnPair) (orders : List Order)
    → join_fault function on orders ≡ None
    → right_fault function on (first_or Any orders) (second_or Any orders) ≡ None
right_met function on orders e =
    none_second (names_fault function (left_names on) (first_or Any orders))
    (right_fault function on (first_or Any orders) (second_or Any orders)) e

-- inputs of a join without a fault are in the order of its pairs, in their directions
pub joinable : (function : ByteList) (on : List OnPair) (orders : List Order)
    (lists : List (List Doc)) → join_fault function on orders ≡ None → AreInOrder orders lists
    → AreJoinable on (directions_of orders) lists
joinable function on [] [] e a = record { lefts = tt; rights = tt }
joinable function on [] (docs ∷ lists) e a = absurd a
joinable function on (order ∷ orders) [] e a = absurd a
joinable function on (Any ∷ []) (lefts ∷ []) e a = record {
  lefts = ascends_short (less (sort_over (left_names on) [])) lefts a.0;
  rights = tt;
}
joinable function on (By terms ∷ []) (lefts ∷ []) e a = record {
  lefts =
      named_ascends (left_names on) terms lefts
      (names_met function (left_names on) (By terms) (left_met function on (By terms ∷ []) e)) a.0;
  rights = tt;
}
joinable function on (order ∷ []) (lefts ∷ rights ∷ lists) e a = absurd a.1
joinable function on (order ∷ right ∷ orders) (lefts ∷ []) e a = absurd a.1
joinable function on (Any ∷ Any ∷ orders) (lefts ∷ rights ∷ lists) e a = record {
  lefts = ascends_short (less (sort_over (left_names on) (directions_of orders))) lefts a.0;
  rights = ascends_short (less (sort_over (right_names on) (directions_of orders))) rights a.1.0;
}
joinable function on (Any ∷ By terms ∷ orders) (lefts ∷ rights ∷ lists) e a = record {
  lefts = ascends_short (less (sort_over (left_names on) (directions terms))) lefts a.0;
  rights =
      named_ascends (right_names on) terms rights
      (names_met function (right_names on) (By terms)
      (right_met function on (Any ∷ By terms ∷ orders) e)) a.1.0;
}
joinable function on (By terms ∷ right ∷ orders) (lefts ∷ rights ∷ lists) e a = record {
  lefts =
      named_ascends (left_names on) terms lefts
      (names_met function (left_names on) (By terms)
      (left_met function on (By terms ∷ right ∷ orders) e)) a.0;
  rights =
      sort_ascends (sort_over (right_names on) (directions terms)) right rights
      (sort_met function (sort_over (right_names on) (directions terms)) right
      (right_met function on (By terms ∷ right ∷ orders) e)) a.1.0;
}
