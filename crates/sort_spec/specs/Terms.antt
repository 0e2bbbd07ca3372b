-- The order that the terms of a sort write (Solr Reference Guide, "Common Query Parameters", sort;
-- that absent comes first, and which kind of value comes before another, is own).
use Rattle.std.specs.Prelude.{◌≡◌, ◌++◌, List, [], ◌∷◌, Bool, if◌then◌else◌}
use Rattle.std.specs.Option.{option_cmp}
use Rattle.std.specs.Ordering.{ordering_reverse, ordering_then, is_lt}
use Rattle.std.specs.declared.cmp.Ordering.{Ordering}
use Rattle.std.specs.declared.cmp.Ordering.TheVariants.{Equal}
use Rattle.tuple_values.specs.Document.{ByteList, Doc, value_at}
use Rattle.tuple_values.specs.Order.{datum_cmp}
use Rattle.sort_spec.specs.declared.term.SortTerm.{SortTerm}

-- how two documents compare by the values of a field, where absent comes first
abbrev pub field_cmp : ByteList → Doc → Doc → Ordering
field_cmp field a b = option_cmp datum_cmp (value_at field a) (value_at field b)

-- how they compare by a term: the other way round where it is descending
abbrev pub term_cmp : SortTerm → Doc → Doc → Ordering
term_cmp term a b =
    if term.descending then ordering_reverse (field_cmp term.field a b)
    else field_cmp term.field a b

-- how they compare by a sort: the first term by which they aren't equal decides
abbrev pub sort_cmp : List SortTerm → Doc → Doc → Ordering
sort_cmp [] a b = Equal
sort_cmp (term ∷ terms) a b = ordering_then (term_cmp term a b) (sort_cmp terms a b)

-- the first document comes before the second
unfoldable pub less : List SortTerm → Doc → Doc → Bool
less terms a b = is_lt (sort_cmp terms a b)

-- the terms are the first of the others
abbrev pub IsPrefix : List SortTerm → List SortTerm → Type 0
IsPrefix terms others = (rest : List SortTerm) × (others ≡ terms ++ rest)
