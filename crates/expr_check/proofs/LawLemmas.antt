-- The inputs of an expression that only reads and has no fault are in the order that their functions
-- need, and what it gives is in its order.
use Rattle.std.proofs.Common.{◌≡◌, ℕ, ◌≤◌, ◌==◌, List, [], ◌∷◌, ◌++◌, true, false, not, ◌&&◌}
use Rattle.std.proofs.Common.{Option, Some, None, length, map, filter, refl, sym, ◌∙◌, ap}
use Rattle.std.proofs.Common.{arith, codes, subst}
use Rattle.std.specs.Prelude.{bytes_eq, flat_map}
use Rattle.std.specs.List.{AllByRecursion, list_all}
use Rattle.std.specs.Option.{option_or}
use Rattle.tuple_values.specs.Document.{ByteList, Doc, is_named}
use Rattle.query_syntax.specs.Matching.{matches}
use Rattle.sort_spec.specs.Sorting.{ins_sort, IsAscending}
use Rattle.sort_spec.specs.Terms.{less}
use Rattle.sort_spec.proofs.StableLemmas.{ins_ascends}
use Rattle.sort_spec.proofs.TermLemmas.{less_is_weak}
use Rattle.sort_spec.specs.declared.pair.OnPair.{OnPair}
use Rattle.sort_spec.specs.declared.term.SortTerm.{SortTerm}
use Rattle.expr_types.specs.ConditionTree.{ConditionTree}
use Rattle.expr_types.specs.Conditions.{holds, having_list}
use Rattle.expr_types.specs.ExprTree.{Operator, search, tuple, select, having, sort, top, unique}
use Rattle.expr_types.specs.ExprTree.{merge, reduce, rollup, inner_join, left_outer_join, intersect}
use Rattle.expr_types.specs.ExprTree.{complement, hash_join, outer_hash_join, in_parallel, topic}
use Rattle.expr_types.specs.ExprTree.{update, commit, daemon, first_or, second_or, SearchParts}
use Rattle.expr_types.specs.ExprTree.{ExprTree, node, ExprTrees, no_exprs, an_expr, expr_list}
use Rattle.expr_types.specs.Joins.{join_list, outer_join_list}
use Rattle.expr_types.specs.Groups.{same_key, firsts, groups, unique_list, reduced, reduce_list}
use Rattle.expr_types.specs.Groups.{rolled}
use Rattle.expr_types.specs.Groups.{rollup_list, metric_name}
use Rattle.expr_types.specs.Rules.{Collections, given, AreAsNeeded}
use Rattle.expr_types.specs.Lists.{list_of, lists_of, AreSorted}
use Rattle.expr_types.specs.Lists.{AreAllSorted}
use Rattle.expr_types.specs.Orders.{IsSortedOver}
use Rattle.expr_types.specs.Limits.{is_between, count_limit}
use Rattle.expr_types.specs.Rules.{is_well, rule_of}
use Rattle.expr_types.specs.Plain.{is_plain, are_plain}
use Rattle.expr_types.specs.Planned.{AreWell, AreAllWell}
use Rattle.expr_types.specs.Rows.{selected, select_list}
use Rattle.expr_types.specs.Sources.{cut_to, first_rows, then_by_id, found_rows, search_list}
use Rattle.expr_types.specs.declared.item.GroupOp.{GroupOp}
use Rattle.expr_types.specs.declared.item.Item.{Item}
use Rattle.expr_types.specs.declared.item.Metric.{Metric}
use Rattle.expr_types.proofs.OrderLemmas.{ascends_by_first}
use Rattle.expr_check.specs.Orders.{IsInOrder, AreInOrder, kept_order, kept_terms, first_terms}
use Rattle.expr_check.specs.Orders.{directions_of, joined_order}
use Rattle.expr_check.specs.Rules.{order_given, need_at, itself_at, parted_at}
use Rattle.expr_check.specs.Walk.{order_of, orders_of, all_fields, followed_in, own_at}
use Rattle.expr_check.specs.Walk.{own_fault, own_faults, keyless_in, all_keys}
use Rattle.expr_check.specs.Needs.{names_first, meets_names}
use Rattle.expr_check.specs.Faults.{names_fault, sort_fault, first_fault}
use Rattle.expr_check.proofs.FaultLemmas.{none_first, none_second, names_met, sort_met, fields_met}
use Rattle.expr_check.specs.declared.order.Order.{Order}
use Rattle.expr_check.specs.declared.order.Order.TheVariants.{Any, By}
use Rattle.expr_check.proofs.NeedLemmas.{and_first, and_second, is_false, same_bytes}
use Rattle.expr_check.proofs.AscendLemmas.{ascends_filter, ascends_take, ascends_firsts}
use Rattle.expr_check.proofs.AscendLemmas.{ascends_map}
use Rattle.expr_check.proofs.AscendLemmas.{ascends_short, each_of, shorter-filter, shorter-firsts}
use Rattle.expr_check.proofs.AscendLemmas.{length-map}
use Rattle.expr_check.proofs.AgreeLemmas.{Agrees, less-agree, value_cut}
use Rattle.expr_check.proofs.ChosenLemmas.{IsKept, kept_terms-are}
use Rattle.expr_check.proofs.FieldLemmas.{AreWithin, second_within, all_within}
use Rattle.expr_check.proofs.JoinLemmas.{joinable, joined_in_order, none_agree, one_agrees}
use Rattle.expr_check.proofs.JoinLemmas.{existing_in_order, sort_ascends}
use Rattle.expr_check.proofs.KeyLemmas.{groups_ascend, reduced_keeps, rolled_keeps}

-- a list by a sort is in its order
sorted_ascends : (terms : List SortTerm) (docs : List Doc)
    → IsAscending (less terms) (ins_sort (less terms) docs)
sorted_ascends terms docs = ins_ascends (less terms) (less_is_weak terms) [] docs tt

-- the first rows of a list in order
rows_ascend : (terms : List SortTerm) (rows : Option ℕ) (docs : List Doc)
    → IsAscending (less terms) docs → IsAscending (less terms) (first_rows rows docs)
rows_ascend terms None docs a = a
rows_ascend terms (Some n) docs a = ascends_take (less terms) n docs a

-- a document that is cut to names agrees by terms whose fields are named
cut_agrees : (names : List ByteList) (terms : List SortTerm) (doc : Doc)
    → list_all (λ term. is_named term.field names) terms ≡ true
    → Agrees terms terms doc (cut_to names doc)
cut_agrees names [] doc e = tt
cut_agrees names (term ∷ terms) doc e = (
  refl,
  sym (value_cut term.field names doc (and_first (is_named term.field names) _ e)),
  cut_agrees names terms doc (and_second (is_named term.field names) _ e),
)

-- what a search gives is in the order of its sort
search_ascends : (p : SearchParts) (docs : List Doc)
    → list_all (λ term. is_named term.field p.fl) p.sort ≡ true
    → IsAscending (less p.sort) (search_list p docs)
unfolding search_list
search_ascends p docs e =
    let whole = then_by_id p.sort in
    let found = found_rows p docs in
    let ascends : IsAscending (less p.sort) found =
    ascends_by_first p.sort (record { field = codes "id"; descending = false } ∷ []) found
    (rows_ascend whole p.rows (ins_sort (less whole) (filter (matches p.q) docs))
    (sorted_ascends whole (filter (matches p.q) docs))) in
    ascends_map (less p.sort) (less p.sort) (cut_to p.fl) (λ _. Unit {0})
    (λ x y _ _. less-agree p.sort p.sort x y (cut_to p.fl x) (cut_to p.fl y)
    (cut_agrees p.fl p.sort x e) (cut_agrees p.fl p.sort y e)) found
    (each_of (λ _. Unit {0}) found (λ _. tt)) ascends

-- what select gives is in the order of the terms that it keeps
select_ascends : (items : List Item) (terms kept : List SortTerm) (docs : List Doc)
    → IsKept items terms kept → IsAscending (less terms) docs
    → IsAscending (less kept) (select_list items docs)
select_ascends items terms kept docs k a =
    ascends_map (less k.first) (less kept) (selected items) (λ _. Unit {0})
    (λ x y _ _. less-agree k.first kept x y (selected items x) (selected items y) (k.agrees x)
    (k.agrees y)) docs (each_of (λ _. Unit {0}) docs (λ _. tt))
    (ascends_by_first k.first k.more docs
    (subst (λ (l : List SortTerm). IsAscending (less l) docs) k.parted a))

-- by any order
select_in_order : (items : List Item) (order : Order) (docs : List Doc) → IsInOrder order docs
    → IsInOrder (kept_order items order) (select_list items docs)
select_in_order items Any docs a = let h = length-map (selected items) docs in omega arith
select_in_order items (By terms) docs a =
    select_ascends items terms (kept_terms items terms) docs (kept_terms-are items terms) a

-- what having gives stays in order
having_in_order : (condition : ConditionTree) (order : Order) (docs : List Doc)
    → IsInOrder order docs → IsInOrder order (having_list condition docs)
having_in_order condition Any docs a = let h = shorter-filter (holds condition) docs in omega arith
having_in_order condition (By terms) docs a = ascends_filter (less terms) (holds condition) docs a

-- so does what unique gives
unique_in_order : (names : List ByteList) (order : Order) (docs : List Doc) → IsInOrder order docs
    → IsInOrder order (unique_list names docs)
unique_in_order names Any docs a = let h = shorter-firsts (same_key names) docs in omega arith
unique_in_order names (By terms) docs a = ascends_firsts (less terms) (same_key names) docs a

-- a function of each group gives no more tuples than there are
groups_short : (names : List ByteList) (made : List Doc → Doc) (docs : List Doc) → length docs ≤ 1
    → length (map made (groups (same_key names) docs)) ≤ 1
groups_short names made docs a =
    let same = same_key names in
    let h = length-map made (groups same docs) in
    let k = length-map (λ x. filter (same x) docs) (firsts same docs) in
    let l = shorter-firsts same docs in omega arith

-- what reduce gives is in the order of the key
reduce_in_order : (names : List ByteList) (op : GroupOp) (order : Order) (docs : List Doc)
    → is_named (codes "group") names ≡ false → meets_names names order ≡ true
    → IsInOrder order docs
    → IsInOrder (first_terms (length names) order) (reduce_list names op docs)
reduce_in_order names op Any docs g m a = groups_short names (reduced op) docs a
reduce_in_order names op (By terms) docs g m a =
    groups_ascend names terms (reduced op) docs m
    (λ doc others h s. reduced_keeps names op doc others g h s) a

-- so is what rollup gives
rollup_in_order : (names : List ByteList) (metrics : List Metric) (order : Order) (docs : List Doc)
    → list_all (λ m. not (is_named (metric_name m) names)) metrics ≡ true
    → meets_names names order ≡ true → IsInOrder order docs
    → IsInOrder (first_terms (length names) order) (rollup_list names metrics docs)
rollup_in_order names metrics Any docs k m a = groups_short names (rolled names metrics) docs a
rollup_in_order names metrics (By terms) docs k m a =
    groups_ascend names terms (rolled names metrics) docs m
    (λ doc others h s. rolled_keeps names metrics doc others k h s) a

-- terms of which the first have these fields
pub record IsNamedFirst (names : List ByteList) (terms : List SortTerm) : Type 0 where
  pub first : List SortTerm
  pub more : List SortTerm
  pub parted : terms ≡ first ++ more
  pub named : map (λ term. term.field) first ≡ names

-- as they are told
named_first : (names : List ByteList) (terms : List SortTerm) → names_first names terms ≡ true
    → IsNamedFirst names terms
named_first [] terms e = record { first = []; more = terms; parted = refl; named = refl }
named_first (name ∷ names) [] e = absurd (cc)
named_first (name ∷ names) (term ∷ terms) e =
    let is = same_bytes term.field name (and_first (bytes_eq term.field name) _ e) in
    let n = named_first names terms (and_second (bytes_eq term.field name) _ e) in record {
      first = term ∷ n.first;
      more = n.more;
      parted = ap (λ (l : List SortTerm). term ∷ l) n.parted;
      named =
          ap (λ (m : ByteList). m ∷ map (λ t. t.field) n.first) is
          ∙ ap (λ (l : List ByteList). name ∷ l) n.named;
    }

-- ascending terms of these names
ascending_terms : List ByteList → List SortTerm
ascending_terms [] = []
ascending_terms (name ∷ names) = record { field = name; descending = false } ∷ ascending_terms names

-- have these fields
ascending_named : (names : List ByteList) → map (λ term. term.field) (ascending_terms names) ≡ names
unfolding ascending_terms
ascending_named [] = refl
ascending_named (name ∷ names) = ap (λ (l : List ByteList). name ∷ l) (ascending_named names)

-- the input of a function that needs names is sorted by them
sorted_over : (names : List ByteList) (order : Order) (docs : List Doc)
    → meets_names names order ≡ true → IsInOrder order docs → IsSortedOver names docs
sorted_over names Any docs m a = record {
  terms = ascending_terms names;
  more = [];
  named = ascending_named names;
  ascends = ascends_short (less (ascending_terms names ++ [])) docs a;
}
sorted_over names (By terms) docs m a =
    let n = named_first names terms m in record {
      terms = n.first;
      more = n.more;
      named = n.named;
      ascends = subst (λ (l : List SortTerm). IsAscending (less l) docs) n.parted a;
    }

-- the first list is in the first order
first_in_order : (orders : List Order) (lists : List (List Doc)) → AreInOrder orders lists
    → IsInOrder (first_or Any orders) (first_or [] lists)
first_in_order [] [] a = omega arith
first_in_order [] (l ∷ ls) a = absurd a
first_in_order (o ∷ os) [] a = absurd a
first_in_order (o ∷ os) (l ∷ ls) a = a.0

-- any meets all names, and so does the first of orders that meet them
first_meets : (function : ByteList) (names : List ByteList) (orders : List Order)
    → first_fault (names_fault function names) orders ≡ None
    → meets_names names (first_or Any orders) ≡ true
first_meets function names [] e = refl
first_meets function names (o ∷ os) e =
    names_met function names o
    (none_first (names_fault function names o) (first_fault (names_fault function names) os) e)

-- inputs without a fault are sorted over the names
all_sorted_over : (function : ByteList) (names : List ByteList) (orders : List Order)
    (lists : List (List Doc)) → first_fault (names_fault function names) orders ≡ None
    → AreInOrder orders lists → AllByRecursion (IsSortedOver names) lists
all_sorted_over function names [] [] e a = tt
all_sorted_over function names [] (l ∷ ls) e a = absurd a
all_sorted_over function names (o ∷ os) [] e a = absurd a
all_sorted_over function names (o ∷ os) (l ∷ ls) e a = (
  sorted_over names o l
      (names_met function names o
      (none_first (names_fault function names o) (first_fault (names_fault function names) os) e))
      a.0,
  all_sorted_over function names os ls
      (none_second (names_fault function names o) (first_fault (names_fault function names) os) e)
      a.1,
)

-- those of a merge ascend
all_ascend : (on : List SortTerm) (orders : List Order) (lists : List (List Doc))
    → first_fault (sort_fault (codes "merge") on) orders ≡ None → AreInOrder orders lists
    → AllByRecursion (IsAscending (less on)) lists
all_ascend on [] [] e a = tt
all_ascend on [] (l ∷ ls) e a = absurd a
all_ascend on (o ∷ os) [] e a = absurd a
all_ascend on (o ∷ os) (l ∷ ls) e a = (
  sort_ascends on o l
      (sort_met (codes "merge") on o
      (none_first (sort_fault (codes "merge") on o) (first_fault (sort_fault (codes "merge") on) os)
      e)) a.0,
  all_ascend on os ls
      (none_second (sort_fault (codes "merge") on o) (first_fault (sort_fault (codes "merge") on) os)
      e) a.1,
)

-- the first list ascends by a sort that is the first of its order
first_ascends : (function : ByteList) (on : List SortTerm) (orders : List Order)
    (lists : List (List Doc)) → first_fault (sort_fault function on) orders ≡ None
    → AreInOrder orders lists → IsAscending (less on) (first_or [] lists)
first_ascends function on [] [] e a = tt
first_ascends function on [] (l ∷ ls) e a = absurd a
first_ascends function on (o ∷ os) [] e a = absurd a
first_ascends function on (o ∷ os) (l ∷ ls) e a =
    sort_ascends on o l
    (sort_met function on o
    (none_first (sort_fault function on o) (first_fault (sort_fault function on) os) e)) a.0

-- where an operator has no fault, the lists of its inputs are in the order that it needs
pub needs_hold : (op : Operator) (n : ℕ) (orders : List Order) (lists : List (List Doc))
    → is_well op n ≡ true → need_at op orders ≡ None → AreInOrder orders lists
    → AreAsNeeded op lists
needs_hold (search p) many orders lists k e a = tt
needs_hold (tuple fields) many orders lists k e a = tt
needs_hold (select items) many orders lists k e a = tt
needs_hold (having condition) many orders lists k e a = tt
needs_hold (sort by) many orders lists k e a = tt
needs_hold (top n by) many orders lists k e a = tt
needs_hold (unique over) many orders lists k e a =
    all_sorted_over (codes "unique") over orders lists e a
needs_hold (merge on) many orders lists k e a = all_ascend on orders lists e a
needs_hold (reduce by op) many orders lists k e a =
    all_sorted_over (codes "reduce") by orders lists e a
needs_hold (rollup over metrics) many orders lists k e a =
    all_sorted_over (codes "rollup") over orders lists e a
needs_hold (inner_join on) many orders lists k e a =
    (directions_of orders, joinable (codes "innerJoin") on orders lists e a)
needs_hold (left_outer_join on) many orders lists k e a =
    (directions_of orders, joinable (codes "leftOuterJoin") on orders lists e a)
needs_hold (intersect on) many orders lists k e a =
    (directions_of orders, joinable (codes "intersect") on orders lists e a)
needs_hold (complement on) many orders lists k e a =
    (directions_of orders, joinable (codes "complement") on orders lists e a)
needs_hold (hash_join on) many orders lists k e a = tt
needs_hold (outer_hash_join on) many orders lists k e a = tt
needs_hold (in_parallel collection workers by) many orders lists k e a = tt
needs_hold (topic p) many orders lists k e a = tt
needs_hold (update dest size) many orders lists k e a = tt
needs_hold (commit dest size) many orders lists k e a = tt
needs_hold (daemon id interval terminate) many orders lists k e a = tt

-- what an inner join gives is in the left order, as far as it stays
inner_in_order : (on : List OnPair) (orders : List Order) (names : List (List ByteList))
    (lists : List (List Doc)) → AreInOrder orders lists → AreWithin names lists
    → IsInOrder (joined_order on (second_or [] names) (first_or Any orders))
    (join_list on (first_or [] lists) (second_or [] lists))
inner_in_order on orders names lists a w =
    joined_in_order (λ left. []) none_agree on (second_or [] names) (first_or Any orders)
    (first_or [] lists) (second_or [] lists) (first_in_order orders lists a)
    (second_within names lists w)

-- so is what an outer join gives
outer_in_order : (on : List OnPair) (orders : List Order) (names : List (List ByteList))
    (lists : List (List Doc)) → AreInOrder orders lists → AreWithin names lists
    → IsInOrder (joined_order on (second_or [] names) (first_or Any orders))
    (outer_join_list on (first_or [] lists) (second_or [] lists))
outer_in_order on orders names lists a w =
    joined_in_order (λ left. left ∷ []) one_agrees on (second_or [] names) (first_or Any orders)
    (first_or [] lists) (second_or [] lists) (first_in_order orders lists a)
    (second_within names lists w)

-- and what it gives is in its order, where it only reads
given_in_order : (docs : Collections) (op : Operator) (n : ℕ) (orders : List Order)
    (names : List (List ByteList)) (lists : List (List Doc)) → (rule_of op).is_plain ≡ true
    → is_well op n ≡ true → need_at op orders ≡ None → AreInOrder orders lists
    → AreWithin names lists
    → IsInOrder (order_given op orders names) (given docs op lists)
given_in_order docs (search p) many orders names lists i k e a w =
    search_ascends p (docs p.collection) (fields_met p.fl p.sort e)
given_in_order docs (tuple fields) many orders names lists i k e a w = omega arith
given_in_order docs (select items) many orders names lists i k e a w =
    select_in_order items (first_or Any orders) (first_or [] lists)
    (first_in_order orders lists a)
given_in_order docs (having condition) many orders names lists i k e a w =
    having_in_order condition (first_or Any orders) (first_or [] lists)
    (first_in_order orders lists a)
given_in_order docs (sort by) many orders names lists i k e a w = sorted_ascends by (first_or [] lists)
given_in_order docs (top n by) many orders names lists i k e a w =
    ascends_take (less by) n (ins_sort (less by) (first_or [] lists))
    (sorted_ascends by (first_or [] lists))
given_in_order docs (unique over) many orders names lists i k e a w =
    unique_in_order over (first_or Any orders) (first_or [] lists)
    (first_in_order orders lists a)
given_in_order docs (merge on) many orders names lists i k e a w =
    sorted_ascends on (flat_map (λ l. l) lists)
given_in_order docs (reduce by op) many orders names lists i k e a w =
    reduce_in_order by op (first_or Any orders) (first_or [] lists)
    (is_false (is_named (codes "group") by)
    (and_second (many == 1 && is_between 1 count_limit op.n) (not (is_named (codes "group") by)) k))
    (first_meets (codes "reduce") by orders e) (first_in_order orders lists a)
given_in_order docs (rollup over metrics) many orders names lists i k e a w =
    rollup_in_order over metrics (first_or Any orders) (first_or [] lists)
    (and_second (many == 1) (list_all (λ m. not (is_named (metric_name m) over)) metrics) k)
    (first_meets (codes "rollup") over orders e) (first_in_order orders lists a)
given_in_order docs (inner_join on) many orders names lists i k e a w =
    inner_in_order on orders names lists a w
given_in_order docs (left_outer_join on) many orders names lists i k e a w =
    outer_in_order on orders names lists a w
given_in_order docs (intersect on) many orders names lists i k e a w =
    existing_in_order true on (first_or Any orders) (first_or [] lists) (second_or [] lists)
    (first_in_order orders lists a)
given_in_order docs (complement on) many orders names lists i k e a w =
    existing_in_order false on (first_or Any orders) (first_or [] lists) (second_or [] lists)
    (first_in_order orders lists a)
given_in_order docs (hash_join on) many orders names lists i k e a w =
    inner_in_order on orders names lists a w
given_in_order docs (outer_hash_join on) many orders names lists i k e a w =
    outer_in_order on orders names lists a w
given_in_order docs (in_parallel collection workers by) many orders names lists i k e a w =
    first_ascends (codes "parallel") by orders lists e a
given_in_order docs (topic p) many orders names lists i k e a w = absurd (cc)
given_in_order docs (update dest size) many orders names lists i k e a w = absurd (cc)
given_in_order docs (commit dest size) many orders names lists i k e a w = absurd (cc)
given_in_order docs (daemon id interval terminate) many orders names lists i k e a w = absurd (cc)

-- both facts of an expression
abbrev pub Holds : Collections → ExprTree → Type 0
Holds docs t = AreSorted docs t × IsInOrder (order_of t) (list_of docs t)

-- and of inputs
abbrev pub HoldAll : Collections → ExprTrees → Type 0
HoldAll docs ts = AreAllSorted docs ts × AreInOrder (orders_of ts) (lists_of docs ts)

mutual
  -- they hold of an expression that only reads, that a plan gives and that has no fault
  pub holds_of : (docs : Collections) (t : ExprTree) → is_plain t ≡ true → AreWell t
      → own_fault t ≡ None → Holds docs t
  holds_of docs (node op inputs) p w e =
      let many = length (expr_list inputs) in
      let orders = orders_of inputs in
      let parted = parted_at op (keyless_in inputs) (all_keys inputs) in
      let need =
      none_first (need_at op orders) parted
      (none_second (itself_at op (followed_in inputs)) (option_or (need_at op orders) parted)
      (none_first (own_at op inputs) (own_faults inputs) e)) in
      let h = hold_all docs inputs (and_second (rule_of op).is_plain (are_plain inputs) p) w.1.1
      (none_second (own_at op inputs) (own_faults inputs) e) in (
        (h.0, needs_hold op many orders (lists_of docs inputs) w.0 need h.1),
        given_in_order docs op many orders (all_fields inputs) (lists_of docs inputs)
            (and_first (rule_of op).is_plain (are_plain inputs) p) w.0 need h.1
            (all_within docs inputs),
      )

  -- and of all inputs
  pub hold_all : (docs : Collections) (ts : ExprTrees) → are_plain ts ≡ true → AreAllWell ts
      → own_faults ts ≡ None → HoldAll docs ts
  hold_all docs no_exprs p w e = (tt, tt)
  hold_all docs (an_expr t ts) p w e =
      let h = holds_of docs t (and_first (is_plain t) (are_plain ts) p) w.0
      (none_first (own_fault t) (own_faults ts) e) in
      let hs = hold_all docs ts (and_second (is_plain t) (are_plain ts) p) w.1
      (none_second (own_fault t) (own_faults ts) e) in
      ((h.0, hs.0), (h.1, hs.1))
