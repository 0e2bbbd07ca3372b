-- No tuple has a field outside the fields of its expression.
use Rattle.std.proofs.Common.{◌≡◌, ℕ, List, [], ◌∷◌, ◌++◌, Bool, true, false, ◌||◌, not, ◌&&◌}
use Rattle.std.proofs.Common.{take, map, fold, filter, if◌then◌else◌}
use Rattle.std.proofs.Common.{refl, sym, ◌∙◌, ap, codes}
use Rattle.std.specs.Prelude.{bytes_eq, flat_map}
use Rattle.std.specs.List.{AllByRecursion, filter_map, list_any}
use Rattle.tuple_values.specs.Document.{ByteList, Doc, group, rows_of, value_at, is_named, over}
use Rattle.tuple_values.proofs.MapLemmas.{value_cut_other}
use Rattle.sort_spec.specs.Texts.{once}
use Rattle.sort_spec.specs.Sorting.{ins_sort}
use Rattle.sort_spec.specs.Terms.{less}
use Rattle.sort_spec.proofs.SortLemmas.{each_append, each_weaker, ins_each}
use Rattle.sort_spec.specs.declared.pair.OnPair.{OnPair}
use Rattle.sort_spec.specs.declared.term.SortTerm.{SortTerm}
use Rattle.expr_types.specs.Conditions.{holds}
use Rattle.expr_types.specs.ExprTree.{Operator, search, tuple, select, having, sort, top, unique}
use Rattle.expr_types.specs.ExprTree.{merge, reduce, rollup, inner_join, left_outer_join, intersect}
use Rattle.expr_types.specs.ExprTree.{complement, hash_join, outer_hash_join, in_parallel, topic}
use Rattle.expr_types.specs.ExprTree.{update, commit, daemon, first_or, second_or, SearchParts}
use Rattle.expr_types.specs.ExprTree.{ExprTree, node, ExprTrees, no_exprs, an_expr}
use Rattle.expr_types.specs.Joins.{join_list, outer_join_list, joined, matches, is_kept}
use Rattle.expr_types.proofs.JoinLemmas.{value_joined}
use Rattle.expr_types.specs.Groups.{same_key, firsts, groups, with_group, reduced, reduce_list}
use Rattle.expr_types.specs.Groups.{metric_name, metric_of, with_number, key_of, rolled}
use Rattle.expr_types.specs.Groups.{rollup_list}
use Rattle.expr_types.specs.Lists.{list_of, lists_of}
use Rattle.expr_types.specs.Rows.{chosen, selected, select_list}
use Rattle.expr_types.specs.Rules.{Collections, given}
use Rattle.expr_types.specs.Sources.{cut_to, found_rows, search_list}
use Rattle.expr_types.specs.declared.item.GroupOp.{GroupOp}
use Rattle.expr_types.specs.declared.item.Item.{Item}
use Rattle.expr_types.specs.declared.item.Metric.{Metric}
use Rattle.expr_check.specs.Fields.{HasOnly, HaveOnly, keys_of, given_name, all_given, rolled_names}
use Rattle.expr_check.specs.Fields.{all_names}
use Rattle.expr_check.specs.Orders.{is_untouched}
use Rattle.expr_check.specs.Reads.{with_name}
use Rattle.expr_check.specs.Rules.{fields_given}
use Rattle.expr_check.specs.Walk.{fields_of, all_fields}
use Rattle.expr_check.proofs.NeedLemmas.{same_bytes, or_first, or_second}
use Rattle.expr_check.proofs.AgreeLemmas.{past_other, value_put-other}
use Rattle.expr_check.proofs.AscendLemmas.{each_filter, each_take, each_firsts}
use Rattle.expr_check.proofs.ChosenLemmas.{changes-untouched, choices-untouched}
use Rattle.expr_check.proofs.KeyLemmas.{number_keeps}
use Rattle.expr_check.proofs.PairLemmas.{pairs_each}
use Rattle.expr_check.proofs.ReadLemmas.{once-fold}

-- a name is in two lists joined where it is in one of them
is_named-append : (name : ByteList) (xs ys : List ByteList)
    → is_named name (xs ++ ys) ≡ (is_named name xs || is_named name ys)
is_named-append name [] ys = refl
is_named-append name (x ∷ xs) ys = go (bytes_eq x name) (is_named-append name xs ys) where
  go : (b : Bool) → is_named name (xs ++ ys) ≡ (is_named name xs || is_named name ys)
      → (b || is_named name (xs ++ ys)) ≡ ((b || is_named name xs) || is_named name ys)
  go true later = refl
  go false later = later

-- a name outside both is outside the first
outside_first : (name : ByteList) (xs ys : List ByteList) → is_named name (xs ++ ys) ≡ false
    → is_named name xs ≡ false
outside_first name xs ys e = or_first (is_named name xs) _ (sym (is_named-append name xs ys) ∙ e)

-- and outside the second
outside_second : (name : ByteList) (xs ys : List ByteList) → is_named name (xs ++ ys) ≡ false
    → is_named name ys ≡ false
outside_second name xs ys e = or_second (is_named name xs) _ (sym (is_named-append name xs ys) ∙ e)

-- a name outside names with one more is outside them, and another than that one
outside_more : (name word : ByteList) (names : List ByteList)
    → is_named name (with_name names word) ≡ false
    → (is_named name names ≡ false) × (bytes_eq word name ≡ false)
outside_more name word names e = go (is_named word names) refl e where
  apart : (b : Bool) → bytes_eq word name ≡ b → is_named word names ≡ true
      → is_named name names ≡ false → b ≡ false
  apart false is there out = refl
  apart true is there out =
      let same = ap (λ (w : ByteList). is_named w names) (same_bytes word name is) in absurd (cc)

  go : (b : Bool) → is_named word names ≡ b
      → is_named name (if b then names else names ++ word ∷ []) ≡ false
      → (is_named name names ≡ false) × (bytes_eq word name ≡ false)
  go true there out = (out, apart (bytes_eq word name) refl there out)
  go false there out = (
    outside_first name names (word ∷ []) out,
    or_first (bytes_eq word name) false (outside_second name names (word ∷ []) out),
  )

-- for several more
outside_all : (name : ByteList) (names more : List ByteList)
    → is_named name (fold with_name names more) ≡ false
    → (is_named name names ≡ false) × (is_named name more ≡ false)
outside_all name names [] e = (e, refl)
outside_all name names (word ∷ more) e =
    let later = outside_all name (with_name names word) more e in
    let here = outside_more name word names later.0 in
    (here.0, ap (λ (b : Bool). b || is_named name more) here.1 ∙ later.1)

-- a name outside names that count once is outside them
outside_once : (name : ByteList) (names : List ByteList) → is_named name (once names) ≡ false
    → is_named name names ≡ false
outside_once name names e =
    (outside_all name [] names (ap (is_named name) (once-fold [] names) ∙ e)).1

-- documents that have only some names have only more names
wider : (names more : List ByteList)
    → ((name : ByteList) → is_named name more ≡ false → is_named name names ≡ false)
    → (docs : List Doc) → HaveOnly names docs → HaveOnly more docs
wider names more out docs a =
    each_weaker (HasOnly names) (HasOnly more) docs (λ doc h name e. h name (out name e)) a

-- what is made of each element has a fact that follows from its own
each_made : {X Y : Type 0} (f : X → Y) (P : X → Type 0) (Q : Y → Type 0)
    → ((x : X) → P x → Q (f x)) → (xs : List X) → AllByRecursion P xs
    → AllByRecursion Q (map f xs)
each_made f P Q made [] a = tt
each_made f P Q made (x ∷ xs) a = (made x a.0, each_made f P Q made xs a.1)

-- or whatever it is made of
all_made : {X Y : Type 0} (f : X → Y) (Q : Y → Type 0) → ((x : X) → Q (f x)) → (xs : List X)
    → AllByRecursion Q (map f xs)
all_made f Q made [] = tt
all_made f Q made (x ∷ xs) = (made x, all_made f Q made xs)

-- a search cuts to its fields
search_within : (p : SearchParts) (docs : List Doc) → HaveOnly p.fl (search_list p docs)
unfolding search_list
search_within p docs =
    all_made (cut_to p.fl) (HasOnly p.fl) (λ doc name e. value_cut_other name p.fl doc e)
    (found_rows p docs)

-- a document has no field but its own
keys_within : (doc : Doc) → HasOnly (keys_of doc) doc
keys_within [] = λ name e. refl
keys_within (f ∷ doc) = λ name e.
    past_other name f doc (or_first (bytes_eq f.0 name) _ e)
    ∙ keys_within doc name (or_second (bytes_eq f.0 name) _ e)

-- no item gives a value to a name that none gives
untouched : (name : ByteList) (items : List Item) → is_named name (map given_name items) ≡ false
    → is_untouched name items ≡ true
untouched name [] e = refl
untouched name (item ∷ items) e =
    ap (λ (b : Bool). not b && is_untouched name items)
    (or_first (bytes_eq (given_name item) name) _ e)
    ∙ untouched name items (or_second (bytes_eq (given_name item) name) _ e)

-- select gives values to its names alone
select_within : (items : List Item) (docs : List Doc)
    → HaveOnly (all_given items) (select_list items docs)
select_within items docs = all_made (selected items) (HasOnly (all_given items)) only docs where
  only : (doc : Doc) → HasOnly (all_given items) (selected items doc)
  only doc = λ name e.
      let clear = untouched name items (outside_once name (map given_name items) e) in
      changes-untouched name (over [] (filter_map (chosen doc) items)) items clear
      ∙ choices-untouched name doc [] items clear

-- each list has only the names beside it
abbrev pub AreWithin : List (List ByteList) → List (List Doc) → Type 0
AreWithin [] [] = Unit {0}
AreWithin [] (l ∷ ls) = ⊥
AreWithin (n ∷ ns) [] = ⊥
AreWithin (n ∷ ns) (l ∷ ls) = HaveOnly n l × AreWithin ns ls

-- so has the first of them
first_within : (names : List (List ByteList)) (lists : List (List Doc)) → AreWithin names lists
    → HaveOnly (first_or [] names) (first_or [] lists)
first_within [] [] a = tt
first_within [] (l ∷ ls) a = absurd a
first_within (n ∷ ns) [] a = absurd a
first_within (n ∷ ns) (l ∷ ls) a = a.0

-- and the second
pub second_within : (names : List (List ByteList)) (lists : List (List Doc)) → AreWithin names lists
    → HaveOnly (second_or [] names) (second_or [] lists)
second_within [] [] a = tt
second_within [] (l ∷ ls) a = absurd a
second_within (n ∷ ns) [] a = absurd a
second_within (n ∷ ns) (l ∷ ls) a = first_within ns ls a.1

-- and all of them together
joined_within : (names : List (List ByteList)) (lists : List (List Doc)) → AreWithin names lists
    → HaveOnly (flat_map (λ n. n) names) (flat_map (λ l. l) lists)
joined_within [] [] a = tt
joined_within [] (l ∷ ls) a = absurd a
joined_within (n ∷ ns) [] a = absurd a
joined_within (n ∷ ns) (l ∷ ls) a =
    let more = flat_map (λ (m : List ByteList). m) ns in
    let rest = flat_map (λ (m : List Doc). m) ls in
    each_append (HasOnly (n ++ more)) l rest
    (wider n (n ++ more) (λ name e. outside_first name n more e) l a.0)
    (wider more (n ++ more) (λ name e. outside_second name n more e) rest (joined_within ns ls a.1))

-- a sort has the documents that it is made of
sort_within : (names : List ByteList) (terms : List SortTerm) (docs : List Doc)
    → HaveOnly names docs → HaveOnly names (ins_sort (less terms) docs)
sort_within names terms docs a = ins_each (HasOnly names) (less terms) [] docs tt a

-- a merge has the names of all its inputs
merge_within : (terms : List SortTerm) (names : List (List ByteList)) (lists : List (List Doc))
    → AreWithin names lists
    → HaveOnly (all_names names) (ins_sort (less terms) (flat_map (λ l. l) lists))
merge_within terms names lists a =
    let joined = flat_map (λ (n : List ByteList). n) names in
    let docs = flat_map (λ (l : List Doc). l) lists in
    sort_within (all_names names) terms docs
    (wider joined (all_names names) (λ name e. outside_once name joined e) docs
    (joined_within names lists a))

-- a name outside all lists is outside the first
outside_front : (name : ByteList) (names : List (List ByteList))
    → is_named name (flat_map (λ n. n) names) ≡ false → is_named name (first_or [] names) ≡ false
outside_front name [] e = refl
outside_front name (n ∷ ns) e = outside_first name n (flat_map (λ m. m) ns) e

-- and outside the second
outside_next : (name : ByteList) (names : List (List ByteList))
    → is_named name (flat_map (λ n. n) names) ≡ false → is_named name (second_or [] names) ≡ false
outside_next name [] e = refl
outside_next name (n ∷ ns) e =
    outside_front name ns (outside_second name n (flat_map (λ m. m) ns) e)

-- what is joined has no field outside those of both
pair_within : (names : List (List ByteList)) (left right : Doc) → HasOnly (first_or [] names) left
    → HasOnly (second_or [] names) right → HasOnly (all_names names) (joined left right)
pair_within names left right l r = λ name e.
    let out = outside_once name (flat_map (λ n. n) names) e in
    let lacks = l name (outside_front name names out) in
    let other = r name (outside_next name names out) in
    value_joined name left right ∙ rw (lacks, other) refl

-- a left document alone has no field outside them either
alone_within : (names : List (List ByteList)) (left : Doc) → HasOnly (first_or [] names) left
    → HasOnly (all_names names) left
alone_within names left l = λ name e.
    l name (outside_front name names (outside_once name (flat_map (λ n. n) names) e))

-- so has nothing that a join gives
inner_within : (on : List OnPair) (names : List (List ByteList)) (lists : List (List Doc))
    → AreWithin names lists
    → HaveOnly (all_names names) (join_list on (first_or [] lists) (second_or [] lists))
inner_within on names lists a =
    pairs_each (λ left. []) (matches on) joined (HasOnly (second_or [] names))
    (HasOnly (first_or [] names)) (HasOnly (all_names names)) (λ left l. tt)
    (λ left right l r. pair_within names left right l r) (first_or [] lists) (second_or [] lists)
    (first_within names lists a) (second_within names lists a)

-- nor that an outer join gives
outer_within : (on : List OnPair) (names : List (List ByteList)) (lists : List (List Doc))
    → AreWithin names lists
    → HaveOnly (all_names names) (outer_join_list on (first_or [] lists) (second_or [] lists))
outer_within on names lists a =
    pairs_each (λ left. left ∷ []) (matches on) joined (HasOnly (second_or [] names))
    (HasOnly (first_or [] names)) (HasOnly (all_names names))
    (λ left l. (alone_within names left l, tt))
    (λ left right l r. pair_within names left right l r) (first_or [] lists) (second_or [] lists)
    (first_within names lists a) (second_within names lists a)

-- so has each group of documents
groups_within : (names : List ByteList) (same : Doc → Doc → Bool) (docs : List Doc)
    → HaveOnly names docs → AllByRecursion (HaveOnly names) (groups same docs)
groups_within names same docs a =
    all_made (λ x. filter (same x) docs) (HaveOnly names)
    (λ x. each_filter (HasOnly names) (same x) docs a) (firsts same docs)

-- the first of some documents with a group has their names and that one
group_within : (names : List ByteList) (n : ℕ) (docs : List Doc) → HaveOnly names docs
    → HasOnly (with_name names (codes "group")) (with_group n docs)
group_within names n [] a = λ name e. refl
group_within names n (doc ∷ docs) a = λ name e.
    let out = outside_more name (codes "group") names e in
    value_put-other name (codes "group") (group (rows_of (take n (doc ∷ docs)))) doc out.1
    ∙ a.0 name out.0

-- so has what reduce gives
reduce_within : (names key : List ByteList) (op : GroupOp) (docs : List Doc) → HaveOnly names docs
    → HaveOnly (with_name names (codes "group")) (reduce_list key op docs)
reduce_within names key op docs a =
    each_made (reduced op) (HaveOnly names) (HasOnly (with_name names (codes "group")))
    (λ run h. group_within names op.n (ins_sort (less op.sort) run)
    (sort_within names op.sort run h))
    (groups (same_key key) docs) (groups_within names (same_key key) docs a)

-- the numbers of metrics stand under their names
numbers_within : (name : ByteList) (docs : List Doc) (doc : Doc) (metrics : List Metric)
    → is_named name (map metric_name metrics) ≡ false
    → value_at name (fold (λ d m. with_number (metric_name m) (metric_of m docs) d) doc metrics)
    ≡ value_at name doc
numbers_within name docs doc [] e = refl
numbers_within name docs doc (m ∷ metrics) e =
    numbers_within name docs (with_number (metric_name m) (metric_of m docs) doc) metrics
    (or_second (bytes_eq (metric_name m) name) _ e)
    ∙ number_keeps name (metric_name m) (metric_of m docs) doc
    (or_first (bytes_eq (metric_name m) name) _ e)

-- a key is cut to its names
key_within : (names : List ByteList) (docs : List Doc) → HasOnly names (key_of names docs)
key_within names [] = λ name e. refl
key_within names (doc ∷ docs) = λ name e. value_cut_other name names doc e

-- so what rollup gives has the names of its key and of its metrics
rollup_within : (names : List ByteList) (metrics : List Metric) (docs : List Doc)
    → HaveOnly (rolled_names names metrics) (rollup_list names metrics docs)
rollup_within names metrics docs =
    all_made (rolled names metrics) (HasOnly (rolled_names names metrics)) only
    (groups (same_key names) docs)
  where
    only : (run : List Doc) → HasOnly (rolled_names names metrics) (rolled names metrics run)
    only run = λ name e.
        let out = outside_once name (names ++ map metric_name metrics) e in
        numbers_within name run (key_of names run) metrics
        (outside_second name names (map metric_name metrics) out)
        ∙ key_within names run name (outside_first name names (map metric_name metrics) out)

-- what an operator gives has only its fields, where each input has only its own
given_within : (docs : Collections) (op : Operator) (names : List (List ByteList))
    (lists : List (List Doc)) → AreWithin names lists
    → HaveOnly (fields_given op names) (given docs op lists)
given_within docs (search p) names lists a = search_within p (docs p.collection)
given_within docs (tuple fields) names lists a = (keys_within fields, tt)
given_within docs (select items) names lists a = select_within items (first_or [] lists)
given_within docs (having condition) names lists a =
    each_filter (HasOnly (first_or [] names)) (holds condition) (first_or [] lists)
    (first_within names lists a)
given_within docs (sort by) names lists a =
    sort_within (first_or [] names) by (first_or [] lists) (first_within names lists a)
given_within docs (top n by) names lists a =
    each_take (HasOnly (first_or [] names)) n (ins_sort (less by) (first_or [] lists))
    (sort_within (first_or [] names) by (first_or [] lists) (first_within names lists a))
given_within docs (unique key) names lists a =
    each_firsts (HasOnly (first_or [] names)) (same_key key) (first_or [] lists)
    (first_within names lists a)
given_within docs (merge on) names lists a = merge_within on names lists a
given_within docs (reduce by op) names lists a =
    reduce_within (first_or [] names) by op (first_or [] lists) (first_within names lists a)
given_within docs (rollup key metrics) names lists a =
    rollup_within key metrics (first_or [] lists)
given_within docs (inner_join on) names lists a = inner_within on names lists a
given_within docs (left_outer_join on) names lists a = outer_within on names lists a
given_within docs (intersect on) names lists a =
    each_filter (HasOnly (first_or [] names))
    (λ left. is_kept true (list_any (matches on left) (second_or [] lists))) (first_or [] lists)
    (first_within names lists a)
given_within docs (complement on) names lists a =
    each_filter (HasOnly (first_or [] names))
    (λ left. is_kept false (list_any (matches on left) (second_or [] lists))) (first_or [] lists)
    (first_within names lists a)
given_within docs (hash_join on) names lists a = inner_within on names lists a
given_within docs (outer_hash_join on) names lists a = outer_within on names lists a
given_within docs (in_parallel collection workers by) names lists a =
    first_within names lists a
given_within docs (topic p) names lists a = tt
given_within docs (update dest size) names lists a = tt
given_within docs (commit dest size) names lists a = tt
given_within docs (daemon id interval terminate) names lists a = tt

mutual
  -- what an expression gives has only its fields
  pub within_of : (docs : Collections) (t : ExprTree) → HaveOnly (fields_of t) (list_of docs t)
  within_of docs (node op inputs) =
      given_within docs op (all_fields inputs) (lists_of docs inputs) (all_within docs inputs)

  -- and so has each input
  pub all_within : (docs : Collections) (ts : ExprTrees)
      → AreWithin (all_fields ts) (lists_of docs ts)
  all_within docs no_exprs = tt
  all_within docs (an_expr t ts) = (within_of docs t, all_within docs ts)
