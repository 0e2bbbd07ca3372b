-- Why an expression may not be evaluated: the first fault of the walk, a call before its inputs,
-- inputs from the left to the right (own).
use Rattle.std.specs.Prelude.{◌++◌, Bool, true, false, List, [], ◌∷◌, Option, Some, None}
use Rattle.std.specs.Prelude.{codes, bytes_eq, if◌then◌else◌}
use Rattle.std.specs.List.{join_by}
use Rattle.std.specs.Option.{option_or}
use Rattle.tuple_values.specs.Document.{ByteList, is_named}
use Rattle.sort_spec.specs.Texts.{direction_word}
use Rattle.sort_spec.specs.declared.pair.OnPair.{OnPair}
use Rattle.sort_spec.specs.declared.term.SortTerm.{SortTerm}
use Rattle.expr_types.specs.ExprTree.{first_or, second_or}
use Rattle.expr_types.specs.Joins.{left_names, right_names}
use Rattle.expr_types.specs.Orders.{sort_over}
use Rattle.expr_check.specs.Orders.{directions}
use Rattle.expr_check.specs.Needs.{meets_sort, meets_names}
use Rattle.expr_check.specs.Partitions.{holds_keys}
use Rattle.expr_check.specs.declared.order.Order.{Order}
use Rattle.expr_check.specs.declared.order.Order.TheVariants.{Any, By}
use Rattle.expr_check.specs.declared.fault.CheckFault.{CheckFault}
use Rattle.expr_check.specs.declared.fault.CheckFault.TheVariants.{BadPlace, UnknownCollection}
use Rattle.expr_check.specs.declared.fault.CheckFault.TheVariants.{UpdateOfItself}
use Rattle.expr_check.specs.declared.fault.CheckFault.TheVariants.{SortFieldNotInFl, NotSorted}
use Rattle.expr_check.specs.declared.fault.CheckFault.TheVariants.{NotPartitioned, OutOfMemory}

-- the first field of a sort that isn't among the names
abbrev pub field_outside : List SortTerm → List ByteList → Option ByteList
field_outside [] fl = None
field_outside (term ∷ terms) fl =
    if is_named term.field fl then field_outside terms fl else Some term.field

-- the fault of a field that isn't there
abbrev pub field_fault : Option ByteList → Option CheckFault
field_fault None = None
field_fault (Some field) = Some (SortFieldNotInFl field)

-- the fault of a function that may stand at its place, or not
abbrev pub place_fault : ByteList → Bool → Option CheckFault
place_fault function true = None
place_fault function false = Some (BadPlace function)

-- the first of the names that isn't there
abbrev pub first_unknown : (ByteList → Bool) → List ByteList → Option ByteList
first_unknown is_there [] = None
first_unknown is_there (name ∷ names) =
    if is_there name then first_unknown is_there names else Some name

-- the fault of a collection that isn't there
abbrev pub unknown_fault : Option ByteList → Option CheckFault
unknown_fault None = None
unknown_fault (Some name) = Some (UnknownCollection name)

-- the fault of an update of this collection, where its input follows a collection as a topic
abbrev pub itself_fault : ByteList → Option ByteList → Option CheckFault
itself_fault dest None = None
itself_fault dest (Some collection) =
    if bytes_eq collection dest then Some (UpdateOfItself dest) else None

-- a term as a text
abbrev pub term_text : SortTerm → ByteList
term_text term = term.field ++ codes " " ++ direction_word term.descending

-- a sort as a text
abbrev pub sort_text : List SortTerm → ByteList
sort_text terms = join_by term_text (codes ",") terms

-- names as a text
abbrev pub names_text : List ByteList → ByteList
names_text names = join_by (λ name. name) (codes ",") names

-- the sort of an input as a text, or `none` where it has no term
abbrev pub has_text : List SortTerm → ByteList
has_text [] = codes "none"
has_text (term ∷ terms) = sort_text (term ∷ terms)

-- the terms of an order
abbrev pub terms_in : Order → List SortTerm
terms_in Any = []
terms_in (By terms) = terms

-- the fault of a function that needs such an order, at an input of this order
abbrev pub order_fault : ByteList → ByteList → Bool → Order → Option CheckFault
order_fault function needed true order = None
order_fault function needed false order =
    Some (NotSorted function needed (has_text (terms_in order)))

-- the fault of a function that needs the names as first fields
abbrev pub names_fault : ByteList → List ByteList → Order → Option CheckFault
names_fault function names order =
    order_fault function (names_text names) (meets_names names order) order

-- the fault of a function that needs a sort as first terms
abbrev pub sort_fault : ByteList → List SortTerm → Order → Option CheckFault
sort_fault function on order =
    order_fault function (sort_text on) (meets_sort on order) order

-- the fault of a function at its right input, which needs the right names of pairs in the
-- directions of the left one; where that is any, directions are free
abbrev pub right_fault : ByteList → List OnPair → Order → Order → Option CheckFault
right_fault function on Any right = names_fault function (right_names on) right
right_fault function on (By terms) right =
    sort_fault function (sort_over (right_names on) (directions terms)) right

-- the fault of a function that needs its inputs in the order of pairs, the left one first
abbrev pub join_fault : ByteList → List OnPair → List Order → Option CheckFault
join_fault function on orders =
    option_or (names_fault function (left_names on) (first_or Any orders))
    (right_fault function on (first_or Any orders) (second_or Any orders))

-- the fault of a parallel whose sort holds the keys of its input, or not
abbrev pub sort_keys_fault : Bool → Option CheckFault
sort_keys_fault true = None
sort_keys_fault false = Some (NotPartitioned (codes "parallel"))

-- the fault of a parallel by this sort over an input with these keys, of which this is the first
-- function without keys
abbrev pub parted_fault : List SortTerm → Option ByteList → Option (List ByteList)
    → Option CheckFault
parted_fault by (Some function) keys = Some (NotPartitioned function)
parted_fault by None keys = sort_keys_fault (holds_keys by keys)

-- the first fault of several things, by the fault that each has
abbrev pub first_fault : {X : Type 0} → (X → Option CheckFault) → List X → Option CheckFault
first_fault fault [] = None
first_fault fault (x ∷ xs) = option_or (fault x) (first_fault fault xs)

-- what a reply says of a fault
abbrev pub fault_text : CheckFault → ByteList
fault_text (BadPlace function) = codes "BadPlace" ++ codes " " ++ function
fault_text (UnknownCollection name) = codes "UnknownCollection" ++ codes " " ++ name
fault_text (UpdateOfItself collection) = codes "UpdateOfItself" ++ codes " " ++ collection
fault_text (SortFieldNotInFl field) = codes "SortFieldNotInFl" ++ codes " " ++ field
fault_text (NotSorted function needed has) =
    codes "NotSorted " ++ function ++ codes " needs " ++ needed ++ codes " has " ++ has
fault_text (NotPartitioned function) = codes "NotPartitioned" ++ codes " " ++ function
fault_text OutOfMemory = codes "out of memory"
