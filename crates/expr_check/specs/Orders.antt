-- In which order an expression gives its tuples (own, after Solr Reference Guide, "Stream Decorator
-- Reference": each function's order follows from those of its inputs).
use Rattle.std.specs.Prelude.{ℕ, ◌≤◌, List, [], ◌∷◌, length, map, take, Option, Some, None, Bool}
use Rattle.std.specs.Prelude.{true, false, not, ◌&&◌, ◌||◌, bytes_eq, if◌then◌else◌}
use Rattle.std.specs.List.{list_any}
use Rattle.std.specs.Option.{option_or}
use Rattle.tuple_values.specs.Document.{ByteList, Doc, is_named}
use Rattle.sort_spec.specs.Sorting.{IsAscending}
use Rattle.sort_spec.specs.Terms.{less}
use Rattle.sort_spec.specs.declared.pair.OnPair.{OnPair}
use Rattle.sort_spec.specs.declared.term.SortTerm.{SortTerm}
use Rattle.expr_types.specs.declared.item.Item.{Item}
use Rattle.expr_types.specs.declared.item.Item.TheVariants.{Field, Replace, Concat}
use Rattle.expr_check.specs.Fields.{given_name}
use Rattle.expr_check.specs.declared.order.Order.{Order}
use Rattle.expr_check.specs.declared.order.Order.TheVariants.{Any, By}

-- the documents are in the order: at most one, or in the order of the terms
abbrev pub IsInOrder : Order → List Doc → Type 0
IsInOrder Any docs = length docs ≤ 1
IsInOrder (By terms) docs = IsAscending (less terms) docs

-- each list of documents is in the order beside it
abbrev pub AreInOrder : List Order → List (List Doc) → Type 0
AreInOrder [] [] = Unit {0}
AreInOrder [] (docs ∷ lists) = ⊥
AreInOrder (order ∷ orders) [] = ⊥
AreInOrder (order ∷ orders) (docs ∷ lists) = IsInOrder order docs × AreInOrder orders lists

-- the item gives a value to this name
abbrev pub touches : ByteList → Item → Bool
touches name item = bytes_eq (given_name item) name

-- no item gives a value to this name
abbrev pub is_untouched : ByteList → List Item → Bool
is_untouched name [] = true
is_untouched name (item ∷ items) = not (touches name item) && is_untouched name items

-- just one item gives a value to this name
abbrev pub is_touched_once : ByteList → List Item → Bool
is_touched_once name [] = false
is_touched_once name (item ∷ items) =
    if touches name item then is_untouched name items else is_touched_once name items

-- the new name of the field, where the item chooses it
abbrev pub name_in : ByteList → Item → Option ByteList
name_in field (Field other to) = if bytes_eq other field then Some to else None
name_in field (Replace other old new) = None
name_in field (Concat fields into delim) = None

-- the new name of the field by the first item that chooses it
abbrev pub new_name : ByteList → List Item → Option ByteList
new_name field [] = None
new_name field (item ∷ items) = option_or (name_in field item) (new_name field items)

-- a term under its new name before others, where no other item gives a value to that name
abbrev pub kept_term : List Item → SortTerm → Option ByteList → List SortTerm → List SortTerm
kept_term items term None rest = []
kept_term items term (Some name) rest =
    if is_touched_once name items
    then record { field = name; descending = term.descending } ∷ rest else []

-- the longest prefix of the terms that are chosen, each under its first new name, where no other
-- item gives a value to that name
abbrev pub kept_terms : List Item → List SortTerm → List SortTerm
kept_terms items [] = []
kept_terms items (term ∷ terms) =
    kept_term items term (new_name term.field items) (kept_terms items terms)

-- an order after select
abbrev pub kept_order : List Item → Order → Order
kept_order items Any = Any
kept_order items (By terms) = By (kept_terms items terms)

-- an order by the first so many terms
abbrev pub first_terms : ℕ → Order → Order
first_terms k Any = Any
first_terms k (By terms) = By (take k terms)

-- a pair asks that this field has one value on both sides
abbrev pub is_paired : ByteList → OnPair → Bool
is_paired field pair = bytes_eq pair.left field && bytes_eq pair.right field

-- a left field keeps its value in a join: no right document with these fields has it, or a pair
-- asks that it has one value on both sides
abbrev pub keeps_field : List OnPair → List ByteList → ByteList → Bool
keeps_field on right field = not (is_named field right) || list_any (is_paired field) on

-- the longest prefix of the terms whose fields keep their values
abbrev pub joined_terms : List OnPair → List ByteList → List SortTerm → List SortTerm
joined_terms on right [] = []
joined_terms on right (term ∷ terms) =
    if keeps_field on right term.field then term ∷ joined_terms on right terms else []

-- the left order after a join; one left tuple may have many pairs, which are in no order
abbrev pub joined_order : List OnPair → List ByteList → Order → Order
joined_order on right Any = By []
joined_order on right (By terms) = By (joined_terms on right terms)

-- the directions of terms
abbrev pub directions : List SortTerm → List Bool
directions terms = map (λ term. term.descending) terms

-- the directions in which inputs are read side by side: those of the first that isn't any
abbrev pub directions_of : List Order → List Bool
directions_of [] = []
directions_of (Any ∷ orders) = directions_of orders
directions_of (By terms ∷ orders) = directions terms
