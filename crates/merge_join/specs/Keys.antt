-- The order of left and right documents by the pairs of a join (own).
use Rattle.std.specs.Prelude.{List, [], ◌∷◌, Bool, false, map, if◌then◌else◌, Option, Some, None}
use Rattle.std.specs.Option.{option_cmp}
use Rattle.std.specs.Ordering.{ordering_reverse, ordering_then, is_eq}
use Rattle.std.specs.declared.cmp.Ordering.{Ordering}
use Rattle.std.specs.declared.cmp.Ordering.TheVariants.{Equal}
use Rattle.tuple_values.specs.Document.{Datum, Doc, value_at}
use Rattle.tuple_values.specs.Order.{datum_cmp}
use Rattle.sort_spec.specs.declared.pair.OnPair.{OnPair}
use Rattle.sort_spec.specs.declared.term.SortTerm.{SortTerm}
use Rattle.merge_join.specs.declared.term.JoinTerm.{JoinTerm}

-- a pair in the direction of a term, ascending where there is none
abbrev pub term_for : OnPair → Option SortTerm → JoinTerm
term_for pair None = record { left = pair.left; right = pair.right; descending = false }
term_for pair (Some term) =
    record { left = pair.left; right = pair.right; descending = term.descending }

-- the pairs, each in the direction of the term at its place
abbrev pub terms_of : List OnPair → List SortTerm → List JoinTerm
terms_of [] order = []
terms_of (pair ∷ on) [] = term_for pair None ∷ terms_of on []
terms_of (pair ∷ on) (term ∷ order) = term_for pair (Some term) ∷ terms_of on order

-- the order of the left documents
abbrev pub left_order : List JoinTerm → List SortTerm
left_order terms = map (λ t. record { field = t.left; descending = t.descending }) terms

-- the order of the right documents
abbrev pub right_order : List JoinTerm → List SortTerm
right_order terms = map (λ t. record { field = t.right; descending = t.descending }) terms

-- an order, the other way round where that is said
abbrev pub directed : Bool → Ordering → Ordering
directed descending order = if descending then ordering_reverse order else order

-- the values of a document under the terms
abbrev pub Key : Type 0
Key = JoinTerm → Option Datum

-- those of a left document
abbrev pub left_key : Doc → Key
left_key doc = λ t. value_at t.left doc

-- and those of a right one
abbrev pub right_key : Doc → Key
right_key doc = λ t. value_at t.right doc

-- how two keys compare: the first term by which they aren't equal decides
abbrev pub key_cmp : List JoinTerm → Key → Key → Ordering
key_cmp [] a b = Equal
key_cmp (t ∷ terms) a b =
    ordering_then (directed t.descending (option_cmp datum_cmp (a t) (b t))) (key_cmp terms a b)

-- how a left document compares with a right one
abbrev pub order_of : List JoinTerm → Doc → Doc → Ordering
order_of terms left right = key_cmp terms (left_key left) (right_key right)

-- by one term
abbrev pub term_order : JoinTerm → Doc → Doc → Ordering
term_order t left right =
    directed t.descending (option_cmp datum_cmp (value_at t.left left) (value_at t.right right))

-- whether they have equal keys
abbrev pub meets : List JoinTerm → Doc → Doc → Bool
meets terms left right = is_eq (order_of terms left right)
