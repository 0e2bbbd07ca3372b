-- A document with its values under the first two terms of a sort (own).
use Rattle.std.specs.Prelude.{List, [], ◌∷◌, Option, None, if◌then◌else◌}
use Rattle.std.specs.Option.{option_cmp}
use Rattle.std.specs.Ordering.{ordering_reverse, ordering_then}
use Rattle.std.specs.declared.cmp.Ordering.{Ordering}
use Rattle.std.specs.declared.cmp.Ordering.TheVariants.{Equal}
use Rattle.tuple_values.specs.Document.{Datum, Doc, value_at}
use Rattle.tuple_values.specs.Order.{datum_cmp}
use Rattle.sort_spec.specs.Held.{held}
use Rattle.sort_spec.specs.Terms.{sort_cmp}
use Rattle.sort_spec.specs.declared.front.Front.{Front}
use Rattle.sort_spec.specs.declared.term.SortTerm.{SortTerm}

-- two values, each of which may be absent
abbrev pub Two : Type 0
Two = Option Datum × Option Datum

-- a document with its values
abbrev pub Row : Type 0
Row = Two × Doc

-- the values that are held of a document
abbrev pub front_in : Doc → Front → Two
front_in doc f = (held doc f.first, held doc f.second)

-- the values of a document under the first two terms, absent under one that isn't there
abbrev pub front_of : List SortTerm → Doc → Two
front_of [] doc = (None, None)
front_of (term ∷ []) doc = (value_at term.field doc, None)
front_of (term ∷ next ∷ terms) doc = (value_at term.field doc, value_at next.field doc)

-- how two values compare by a term: the other way round where it is descending
abbrev pub value_cmp : SortTerm → Option Datum → Option Datum → Ordering
value_cmp term a b =
    if term.descending then ordering_reverse (option_cmp datum_cmp a b)
    else option_cmp datum_cmp a b

-- how two rows compare: by the values under the first two terms, and then by the other terms
abbrev pub row_cmp : List SortTerm → Row → Row → Ordering
row_cmp [] a b = Equal
row_cmp (term ∷ []) a b = value_cmp term a.0.0 b.0.0
row_cmp (term ∷ next ∷ terms) a b =
    ordering_then (value_cmp term a.0.0 b.0.0)
    (ordering_then (value_cmp next a.0.1 b.0.1) (sort_cmp terms a.1 b.1))
