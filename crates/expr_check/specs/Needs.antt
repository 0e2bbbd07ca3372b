-- Which orders a function needs of its inputs (own, after Solr Reference Guide, "Stream Decorator
-- Reference", merge, unique, reduce and rollup).
use Rattle.std.specs.Prelude.{List, [], ◌∷◌, Bool, true, false, not, ◌&&◌, bytes_eq, if◌then◌else◌}
use Rattle.tuple_values.specs.Document.{ByteList}
use Rattle.sort_spec.specs.declared.term.SortTerm.{SortTerm}
use Rattle.expr_check.specs.declared.order.Order.{Order}
use Rattle.expr_check.specs.declared.order.Order.TheVariants.{Any, By}

-- one field and one direction
abbrev pub same_term : SortTerm → SortTerm → Bool
same_term a b =
    bytes_eq a.field b.field && (if a.descending then b.descending else not b.descending)

-- the terms are the first of the others
abbrev pub are_first : List SortTerm → List SortTerm → Bool
are_first [] others = true
are_first (term ∷ terms) [] = false
are_first (term ∷ terms) (other ∷ others) = same_term term other && are_first terms others

-- the names are the fields of the first terms, in order
abbrev pub names_first : List ByteList → List SortTerm → Bool
names_first [] terms = true
names_first (name ∷ names) [] = false
names_first (name ∷ names) (term ∷ terms) = bytes_eq term.field name && names_first names terms

-- the order is by terms of which these are the first; any is of at most one tuple
abbrev pub meets_sort : List SortTerm → Order → Bool
meets_sort on Any = true
meets_sort on (By terms) = are_first on terms

-- the order is by terms of which the first have these fields; any is of at most one tuple
abbrev pub meets_names : List ByteList → Order → Bool
meets_names names Any = true
meets_names names (By terms) = names_first names terms
