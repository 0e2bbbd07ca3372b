-- What the functions give that group tuples by some of their fields, over lists of documents (Solr
-- Reference Guide, "Stream Decorator Reference", unique, reduce and rollup; that sums and counts
-- wrap round is own).
use Rattle.std.specs.Prelude.{ℕ, ◌%◌, ◌^◌, ℤ, pos, ◌+ℤ◌, length, List, [], ◌∷◌, ◌++◌}
use Rattle.std.specs.Prelude.{Bool, not, map}
use Rattle.std.specs.Prelude.{Option, Some, None, filter, fold, take, codes}
use Rattle.std.specs.Int.{w64, int_wrap, int_min, int_max, cast_signed}
use Rattle.std.specs.List.{list_all, filter_map}
use Rattle.std.specs.Ordering.{is_eq}
use Rattle.tuple_values.specs.Document.{ByteList, Datum, long, text, group, Doc, rows_of}
use Rattle.tuple_values.specs.Document.{value_at, put, is_named}
use Rattle.sort_spec.specs.Sorting.{ins_sort}
use Rattle.sort_spec.specs.Terms.{field_cmp, less}
use Rattle.expr_types.specs.declared.item.Metric.{Metric}
use Rattle.expr_types.specs.declared.item.Metric.TheVariants.{Sum, Min, Max, Count}
use Rattle.expr_types.specs.declared.item.GroupOp.{GroupOp}

-- whether two documents have equal values in each of the fields; two absent ones are equal
abbrev pub same_key : List ByteList → Doc → Doc → Bool
same_key names a b = list_all (λ name. is_eq (field_cmp name a b)) names

-- the first element of each kind, in the order in which the kinds first occur
abbrev pub firsts : {X : Type 0} → (X → X → Bool) → List X → List X
firsts same [] = []
firsts same (x ∷ xs) = x ∷ filter (λ y. not (same x y)) (firsts same xs)

-- for each kind its elements in the whole list
abbrev pub groups : {X : Type 0} → (X → X → Bool) → List X → List (List X)
groups same xs = map (λ x. filter (same x) xs) (firsts same xs)

-- the first document of each key
abbrev pub unique_list : List ByteList → List Doc → List Doc
unique_list names docs = firsts (same_key names) docs

-- the first of some documents, with the first so many as its field `group`
abbrev pub with_group : ℕ → List Doc → Doc
with_group n [] = []
with_group n (doc ∷ docs) = put (codes "group") (group (rows_of (take n (doc ∷ docs)))) doc

-- the documents of one key as one: sorted, the first with the first so many
abbrev pub reduced : GroupOp → List Doc → Doc
reduced op docs = with_group op.n (ins_sort (less op.sort) docs)

-- one document for each key
abbrev pub reduce_list : List ByteList → GroupOp → List Doc → List Doc
reduce_list names op docs = map (reduced op) (groups (same_key names) docs)

-- the number, where the value is one
abbrev pub long_in : Option Datum → Option ℤ
long_in None = None
long_in (Some (long n)) = Some n
long_in (Some (text bytes)) = None
long_in (Some (group rows)) = None

-- the numbers of a field; other values are skipped
abbrev pub numbers_of : ByteList → List Doc → List ℤ
numbers_of field docs = filter_map (λ doc. long_in (value_at field doc)) docs

-- the sum of numbers, modulo 2^64 in two's complement
abbrev pub wrapped_sum : List ℤ → ℤ
wrapped_sum numbers = int_wrap w64 (fold (λ n m. n +ℤ m) (pos 0) numbers)

-- the least or the greatest of numbers, by which of two it is
abbrev pub foremost : (ℤ → ℤ → ℤ) → List ℤ → Option ℤ
foremost of_two [] = None
foremost of_two (n ∷ numbers) = Some (fold of_two n numbers)

-- the name of a metric, which is that of its field
abbrev pub metric_name : Metric → ByteList
metric_name (Sum field) = codes "sum(" ++ field ++ codes ")"
metric_name (Min field) = codes "min(" ++ field ++ codes ")"
metric_name (Max field) = codes "max(" ++ field ++ codes ")"
metric_name Count = codes "count(*)"

-- what it is over documents; the least and the greatest of no number are absent
abbrev pub metric_of : Metric → List Doc → Option ℤ
metric_of (Sum field) docs = Some (wrapped_sum (numbers_of field docs))
metric_of (Min field) docs = foremost int_min (numbers_of field docs)
metric_of (Max field) docs = foremost int_max (numbers_of field docs)
metric_of Count docs = Some (cast_signed w64 (length docs % 2 ^ 64))

-- a document with a number under a name, where there is one
abbrev pub with_number : ByteList → Option ℤ → Doc → Doc
with_number name None doc = doc
with_number name (Some n) doc = put name (long n) doc

-- the named fields of the first document, where there is one
abbrev pub key_of : List ByteList → List Doc → Doc
key_of names [] = []
key_of names (doc ∷ docs) = filter (λ f. is_named f.0 names) doc

-- the documents of one key as one: the fields of the key and the metrics
abbrev pub rolled : List ByteList → List Metric → List Doc → Doc
rolled names metrics docs =
    fold (λ doc metric. with_number (metric_name metric) (metric_of metric docs) doc)
    (key_of names docs) metrics

-- one document for each key
abbrev pub rollup_list : List ByteList → List Metric → List Doc → List Doc
rollup_list names metrics docs = map (rolled names metrics) (groups (same_key names) docs)
