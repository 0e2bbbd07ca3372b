-- Keys: what a group makes of a document keeps the fields of its key.
use Rattle.std.proofs.Common.{◌≡◌, ℕ, zero, suc, ◌<◌, List, [], ◌∷◌, ◌++◌, Bool, true, false, not}
use Rattle.std.proofs.Common.{◌||◌, Option, Some, None, length, take, drop, map, filter, fold}
use Rattle.std.proofs.Common.{refl, sym, ◌∙◌, ap, arith, codes, subst}
use Rattle.std.specs.Prelude.{bytes_eq, ℤ}
use Rattle.std.specs.List.{AllByRecursion, list_all}
use Rattle.tuple_values.specs.Document.{ByteList, Doc, long, group, rows_of, value_at, is_named}
use Rattle.sort_spec.specs.Sorting.{ins_sort, IsAscending}
use Rattle.sort_spec.specs.Terms.{less}
use Rattle.sort_spec.proofs.SortLemmas.{each_weaker, ins_each}
use Rattle.sort_spec.specs.declared.term.SortTerm.{SortTerm}
use Rattle.expr_types.specs.Groups.{same_key, firsts, groups, with_group, reduced, rolled}
use Rattle.expr_types.specs.Groups.{key_of, metric_name, metric_of, with_number}
use Rattle.expr_types.specs.declared.item.Metric.{Metric}
use Rattle.expr_types.specs.declared.item.GroupOp.{GroupOp}
use Rattle.expr_types.proofs.OrderLemmas.{ascends_by_first}
use Rattle.expr_check.specs.Needs.{names_first}
use Rattle.expr_check.proofs.NeedLemmas.{and_first, and_second, same_bytes, itself_bytes}
use Rattle.expr_check.proofs.AscendLemmas.{each_firsts, ascends_firsts, ascends_map, each_passes}
use Rattle.expr_check.proofs.AscendLemmas.{each_has_kind, length-ins}
use Rattle.expr_check.proofs.AgreeLemmas.{Agrees, agree_by, less-agree, same_key-same, value_cut}
use Rattle.expr_check.proofs.AgreeLemmas.{value_put-other}
use Rattle.std.proofs.lemmas.Cmp.{tied_itself}
use Rattle.std.specs.Ordering.{is_eq}
use Rattle.sort_spec.specs.Terms.{field_cmp}
use Rattle.sort_spec.proofs.TermLemmas.{field_cmp_total}

-- a document has its own key
pub same_key-itself : (names : List ByteList) (doc : Doc) → same_key names doc doc ≡ true
same_key-itself [] doc = refl
same_key-itself (name ∷ names) doc =
    let e : is_eq (field_cmp name doc doc) ≡ true =
    ap is_eq (tied_itself (field_cmp_total name) doc) in
    rw e (same_key-itself names doc)

-- the first fields of a sort are named
named_apart : (name : ByteList) (other : ByteList) (names : List ByteList)
    → is_named name names ≡ true → is_named name (other ∷ names) ≡ true
named_apart name other names e = go (bytes_eq other name) where
  go : (b : Bool) → (b || is_named name names) ≡ true
  go true = refl
  go false = e

-- each name of a list is in it
each_named : (names : List ByteList) → AllByRecursion (λ name. is_named name names ≡ true) names
each_named [] = tt
each_named (name ∷ names) = (
  ap (λ (b : Bool). b || is_named name names) (itself_bytes name),
  each_weaker (λ n. is_named n names ≡ true) (λ n. is_named n (name ∷ names) ≡ true) names
      (λ n e. named_apart n name names e) (each_named names),
)

-- the first terms, where the names are their fields
fields_named : (all names : List ByteList) (terms : List SortTerm) → names_first names terms ≡ true
    → AllByRecursion (λ name. is_named name all ≡ true) names
    → AllByRecursion (λ term. is_named term.field all ≡ true) (take (length names) terms)
fields_named all [] terms e a = tt
fields_named all (name ∷ names) [] e a = absurd (cc)
fields_named all (name ∷ names) (term ∷ terms) e a =
    let is = same_bytes term.field name (and_first (bytes_eq term.field name) _ e) in (
      ap (λ (n : ByteList). is_named n all) is ∙ a.0,
      fields_named all names terms (and_second (bytes_eq term.field name) _ e) a.1,
    )

-- the first terms and the others are all terms
take_and_drop : {X : Type 0} (n : ℕ) (xs : List X) → xs ≡ take n xs ++ drop n xs
take_and_drop zero xs = refl
take_and_drop (suc n) [] = refl
take_and_drop (suc n) (x ∷ xs) = ap (λ l. x ∷ l) (take_and_drop n xs)

-- documents in the order of terms are in the order of the first of them
pub ascends_first : (n : ℕ) (terms : List SortTerm) (docs : List Doc)
    → IsAscending (less terms) docs
    → IsAscending (less (take n terms)) docs
ascends_first n terms docs a =
    ascends_by_first (take n terms) (drop n terms) docs
    (subst (λ (l : List SortTerm). IsAscending (less l) docs) (take_and_drop n terms) a)

-- the documents have the same values in the named fields
abbrev pub HasKey : List ByteList → Doc → Doc → Type 0
HasKey names doc other =
    (name : ByteList) → is_named name names ≡ true → value_at name other ≡ value_at name doc

-- what a function makes of each group keeps the order of its key
pub groups_ascend : (names : List ByteList) (terms : List SortTerm) (made : List Doc → Doc)
    (docs : List Doc) → names_first names terms ≡ true
    → ((doc : Doc) (others : List Doc) → 0 < length others
    → AllByRecursion (λ o. same_key names doc o ≡ true) others → HasKey names doc (made others))
    → IsAscending (less terms) docs
    → IsAscending (less (take (length names) terms))
    (map made (groups (same_key names) docs))
groups_ascend names terms made docs first keeps a =
    let same = same_key names in
    let group_at : (doc : Doc) → List Doc = λ doc. filter (same doc) docs in
    let key : (doc : Doc) → Type 0 = λ doc. HasKey names doc (made (group_at doc)) in
    let named = fields_named names names terms first (each_named names) in
    let alike : (x y : Doc) → key x → key y
    → less (take (length names) terms) (made (group_at x)) (made (group_at y))
    ≡ less (take (length names) terms) x y =
    λ x y p q.
    less-agree (take (length names) terms) (take (length names) terms) x y (made (group_at x))
    (made (group_at y)) (agreed x (made (group_at x)) p named)
    (agreed y (made (group_at y)) q named) in
    subst (IsAscending (less (take (length names) terms)))
    (map-map made group_at (firsts same docs))
    (ascends_map (less (take (length names) terms)) (less (take (length names) terms))
    (λ doc. made (group_at doc)) key alike (firsts same docs)
    (each_firsts key same docs
    (each_weaker (λ doc. 0 < length (group_at doc)) key docs
    (λ doc h. keeps doc (group_at doc) h (each_passes (same doc) docs))
    (each_has_kind same (same_key-itself names) docs)))
    (ascends_firsts (less (take (length names) terms)) same docs
    (ascends_first (length names) terms docs a)))
  where
    agreed : (doc other : Doc) → HasKey names doc other
        → AllByRecursion (λ term. is_named term.field names ≡ true) (take (length names) terms)
        → Agrees (take (length names) terms) (take (length names) terms) doc other
    agreed doc other k named =
        agree_by (take (length names) terms) doc other
        (each_weaker (λ term. is_named term.field names ≡ true)
        (λ term. value_at term.field doc ≡ value_at term.field other)
        (take (length names) terms) (λ term e. sym (k term.field e)) named)

    map-map : {X Y Z : Type 0} (f : Y → Z) (g : X → Y) (xs : List X)
        → map (λ x. f (g x)) xs ≡ map f (map g xs)
    map-map f g [] = refl
    map-map f g (x ∷ xs) = ap (λ l. f (g x) ∷ l) (map-map f g xs)

-- a name in a list isn't one that isn't
named_not : (name other : ByteList) (names : List ByteList) → is_named name names ≡ true
    → is_named other names ≡ false → bytes_eq other name ≡ false
named_not name other names e f = go (bytes_eq other name) refl where
  go : (b : Bool) → bytes_eq other name ≡ b → b ≡ false
  go true t =
      let same = ap (λ (n : ByteList). is_named n names) (same_bytes other name t) in absurd (cc)
  go false t = refl

-- the first of documents of one key, with a group
group_keeps : (names : List ByteList) (n : ℕ) (doc : Doc) (docs : List Doc)
    → is_named (codes "group") names ≡ false → 0 < length docs
    → AllByRecursion (λ o. same_key names doc o ≡ true) docs
    → HasKey names doc (with_group n docs)
group_keeps names n doc [] g h a = absurd (omega arith)
group_keeps names n doc (first ∷ docs) g h a = λ name e.
    value_put-other name (codes "group") (group (rows_of (take n (first ∷ docs)))) first
    (named_not name (codes "group") names e g)
    ∙ sym (same_key-same names doc first a.0 name e)

-- so reduce keeps the key
pub reduced_keeps : (names : List ByteList) (op : GroupOp) (doc : Doc) (docs : List Doc)
    → is_named (codes "group") names ≡ false → 0 < length docs
    → AllByRecursion (λ o. same_key names doc o ≡ true) docs → HasKey names doc (reduced op docs)
reduced_keeps names op doc docs g h a =
    let long = length-ins (less op.sort) [] docs in
    group_keeps names op.n doc (ins_sort (less op.sort) docs) g (omega arith)
    (ins_each (λ o. same_key names doc o ≡ true) (less op.sort) [] docs tt a)

-- a metric's number under its name
pub number_keeps : (name other : ByteList) (n : Option ℤ) (doc : Doc) → bytes_eq other name ≡ false
    → value_at name (with_number other n doc) ≡ value_at name doc
number_keeps name other None doc e = refl
number_keeps name other (Some n) doc e = value_put-other name other (long n) doc e

-- what isn't so
not_so : (b : Bool) → not b ≡ true → b ≡ false
not_so true e = absurd (cc)
not_so false e = refl

-- the metrics' numbers
numbers_keep : (names : List ByteList) (name : ByteList) (docs : List Doc) (doc : Doc)
    (metrics : List Metric) → is_named name names ≡ true
    → list_all (λ m. not (is_named (metric_name m) names)) metrics ≡ true
    → value_at name
    (fold (λ d m. with_number (metric_name m) (metric_of m docs) d) doc metrics)
    ≡ value_at name doc
numbers_keep names name docs doc [] e m = refl
numbers_keep names name docs doc (metric ∷ metrics) e m =
    numbers_keep names name docs (with_number (metric_name metric) (metric_of metric docs) doc)
    metrics e (and_second (not (is_named (metric_name metric) names)) _ m)
    ∙ number_keeps name (metric_name metric) (metric_of metric docs) doc
    (named_not name (metric_name metric) names e
    (not_so (is_named (metric_name metric) names)
    (and_first (not (is_named (metric_name metric) names)) _ m)))

-- the fields of the key
key_keeps : (names : List ByteList) (doc : Doc) (docs : List Doc) → 0 < length docs
    → AllByRecursion (λ o. same_key names doc o ≡ true) docs → HasKey names doc (key_of names docs)
key_keeps names doc [] h a = absurd (omega arith)
key_keeps names doc (first ∷ docs) h a = λ name e.
    value_cut name names first e ∙ sym (same_key-same names doc first a.0 name e)

-- so rollup keeps the key
pub rolled_keeps : (names : List ByteList) (metrics : List Metric) (doc : Doc) (docs : List Doc)
    → list_all (λ m. not (is_named (metric_name m) names)) metrics ≡ true → 0 < length docs
    → AllByRecursion (λ o. same_key names doc o ≡ true) docs
    → HasKey names doc (rolled names metrics docs)
rolled_keeps names metrics doc docs m h a = λ name e.
    numbers_keep names name docs (key_of names docs) metrics e m
    ∙ key_keeps names doc docs h a name e
