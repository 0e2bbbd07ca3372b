-- What the check knows of a function with its parameters, as a row of a table, and the rows that
-- several functions share (own, after Solr Reference Guide, "Stream Source Reference" and "Stream
-- Decorator Reference").
use Rattle.std.specs.Prelude.{List, [], Bool, true, false, ◌&&◌, Option, None}
use Rattle.tuple_values.specs.Document.{ByteList}
use Rattle.sort_spec.specs.declared.pair.OnPair.{OnPair}
use Rattle.expr_types.specs.ExprTree.{first_or, second_or}
use Rattle.expr_check.specs.Orders.{joined_order}
use Rattle.expr_check.specs.Places.{within, holds_effects, holds_reads}
use Rattle.expr_check.specs.Fields.{all_names}
use Rattle.expr_check.specs.Faults.{names_fault, join_fault, first_fault}
use Rattle.expr_check.specs.Partitions.{kept_keys, paired_keys, is_pair, is_kept_pair}
use Rattle.expr_check.specs.Splits.{Split}
use Rattle.expr_check.specs.declared.order.Order.{Order}
use Rattle.expr_check.specs.declared.order.Order.TheVariants.{Any, By}
use Rattle.expr_check.specs.declared.fault.CheckFault.{CheckFault}
use Rattle.expr_check.specs.declared.roots.Place.{Place}
use Rattle.expr_check.specs.declared.roots.Roots.{Roots}
use Rattle.expr_check.specs.declared.roots.Round.{Round}
use Rattle.expr_check.specs.declared.roots.Round.TheVariants.{Other}

-- a row of the table
pub record CheckRule : Type 0 where
  -- the order that it gives of the orders of its inputs and of their fields
  pub order : List Order → List (List ByteList) → Order
  -- the fields of its tuples, of those of its inputs
  pub fields : List (List ByteList) → List ByteList
  -- the fields that carry the keys of its partitions, of the fields and keys of its inputs
  pub keys : List (List ByteList) → List (Option (List ByteList)) → Option (List ByteList)
  -- its fault over inputs of these orders
  pub fault : List Order → Option CheckFault
  -- its fault where its input follows this collection as a topic
  pub itself : Option ByteList → Option CheckFault
  -- its fault over inputs of these keys, of which this is the first function without keys
  pub parted : Option ByteList → List (Option (List ByteList)) → Option CheckFault
  -- how it splits its work, where it is a parallel
  pub split : Option Split
  -- whether it runs its input, which is checked by itself
  pub runs : Bool
  -- the collection that it follows as a topic
  pub follows : Option ByteList
  -- the collections that it reads
  pub reads : List ByteList
  -- those that it names, which are to be there
  pub names : List ByteList
  -- whether it may stand at a place
  pub stands : Roots → Place → Bool
  -- the place of its inputs, where it stands at a place
  pub inner : Place → Place

-- what gives its first input's order, as far as it keeps it, and its fields, but no keys, and has no
-- fault
abbrev pub by_input : (Order → Order) → CheckRule
by_input kept = record {
  order = λ orders lists. kept (first_or Any orders);
  fields = λ lists. first_or [] lists;
  keys = λ lists keys. None;
  fault = λ orders. None;
  itself = λ followed. None;
  parted = λ keyless keys. None;
  split = None;
  runs = false;
  follows = None;
  reads = [];
  names = [];
  stands = λ roots place. holds_reads place.round;
  inner = within Other;
}

-- what gives an order of its own, whatever its inputs are in
abbrev pub of_its_own : Order → CheckRule
of_its_own order = by_input (λ other. order)

-- what gives these fields, of those of its inputs
abbrev pub with_fields : (List (List ByteList) → List ByteList) → CheckRule → CheckRule
with_fields given rule = record rule { fields = given }

-- what gives these keys, of those of its first input
abbrev pub with_keys : (Option (List ByteList) → Option (List ByteList)) → CheckRule → CheckRule
with_keys given rule = record rule { keys = λ lists keys. given (first_or None keys) }

-- what needs the names as first fields of its inputs, and keeps keys that are among them
abbrev pub needs_names : ByteList → List ByteList → CheckRule → CheckRule
needs_names function names rule =
    record (with_keys (kept_keys names) rule) {
      fault = λ orders. first_fault (names_fault function names) orders;
    }

-- what needs its inputs in the order of pairs
abbrev pub needs_pairs : ByteList → List OnPair → CheckRule → CheckRule
needs_pairs function on rule = record rule { fault = λ orders. join_fault function on orders }

-- a join: the left order, as far as its fields keep their values, and the fields of both inputs
abbrev pub joining : List OnPair → CheckRule
joining on = record (by_input (λ order. order)) {
  order = λ orders lists. joined_order on (second_or [] lists) (first_or Any orders);
  fields = all_names;
  keys = λ lists keys. paired_keys (is_kept_pair on (second_or [] lists)) keys;
}

-- what keeps left tuples by the right ones: the left order and fields
abbrev pub filtering : List OnPair → CheckRule
filtering on = record (by_input (λ order. order)) {
  keys = λ lists keys. paired_keys (is_pair on) keys;
}

-- what follows a topic or changes a collection: it gives its tuples in no order, names these
-- collections, and stands only in such calls
abbrev pub by_effect : List ByteList → (Round → Bool) → Round → CheckRule
by_effect named held round = record (of_its_own (By [])) {
  names = named;
  stands = λ roots place. holds_effects roots && held place.round;
  inner = within round;
}

-- the same, where it runs its input
abbrev pub running : List ByteList → (Round → Bool) → Round → CheckRule
running named held round = record (by_effect named held round) { runs = true }
