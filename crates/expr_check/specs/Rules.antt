-- What the check knows of each function with its parameters, in one row of a table: the order in
-- which it gives its tuples, their fields and keys, its own faults, the collections that it names, and
-- where it may stand (own, after Solr Reference Guide, "Stream Source Reference" and "Stream Decorator
-- Reference").
use Rattle.std.specs.Prelude.{List, [], ◌∷◌, length, Bool, not, ◌&&◌, codes, Option, Some, None}
use Rattle.tuple_values.specs.Document.{ByteList}
use Rattle.expr_types.specs.ExprTree.{Operator, search, tuple, select, having, sort, top, unique}
use Rattle.expr_types.specs.ExprTree.{merge, reduce, rollup, inner_join, left_outer_join, intersect}
use Rattle.expr_types.specs.ExprTree.{complement, hash_join, outer_hash_join, in_parallel, topic}
use Rattle.expr_types.specs.ExprTree.{update, commit, daemon, first_or}
use Rattle.expr_check.specs.Orders.{kept_order, first_terms}
use Rattle.expr_check.specs.Places.{in_a_parallel, holds_reads, holds_topic, holds_update}
use Rattle.expr_check.specs.Places.{holds_commit, holds_daemon}
use Rattle.expr_check.specs.Reads.{with_name}
use Rattle.expr_check.specs.Fields.{keys_of, all_given, rolled_names, all_names, topic_names}
use Rattle.expr_check.specs.Faults.{field_fault, field_outside, sort_fault, first_fault}
use Rattle.expr_check.specs.Faults.{itself_fault, parted_fault}
use Rattle.expr_check.specs.Partitions.{search_keys, chosen_keys, merged_keys}
use Rattle.expr_check.specs.Splits.{Split}
use Rattle.expr_check.specs.declared.order.Order.{Order}
use Rattle.expr_check.specs.declared.order.Order.TheVariants.{Any, By}
use Rattle.expr_check.specs.declared.fault.CheckFault.{CheckFault}
use Rattle.expr_check.specs.declared.roots.Place.{Place}
use Rattle.expr_check.specs.declared.roots.Roots.{Roots}
use Rattle.expr_check.specs.declared.roots.Round.TheVariants.{Update, Commit, Daemon, Other}
use Rattle.expr_check.specs.Rows.{CheckRule, by_input, of_its_own, with_fields, with_keys}
use Rattle.expr_check.specs.Rows.{needs_names, needs_pairs, joining, filtering, by_effect, running}

-- the table
abbrev pub check_rule : Operator → CheckRule
check_rule (search p) = record (of_its_own (By p.sort)) {
  fields = λ lists. p.fl;
  keys = λ lists keys. search_keys p.partition_keys p.fl p.rows;
  fault = λ orders. field_fault (field_outside p.sort p.fl);
  reads = p.collection ∷ [];
  names = p.collection ∷ [];
}
check_rule (tuple fields) = with_fields (λ lists. keys_of fields) (of_its_own Any)
check_rule (select items) =
    with_keys (chosen_keys items)
    (with_fields (λ lists. all_given items) (by_input (kept_order items)))
check_rule (having condition) = with_keys (λ keys. keys) (by_input (λ order. order))
check_rule (sort by) = with_keys (λ keys. keys) (of_its_own (By by))
check_rule (top n by) = of_its_own (By by)
check_rule (unique over) = needs_names (codes "unique") over (by_input (λ order. order))
check_rule (merge on) = record (of_its_own (By on)) {
  fields = all_names;
  keys = λ lists keys. merged_keys keys;
  fault = λ orders. first_fault (sort_fault (codes "merge") on) orders;
}
check_rule (reduce by op) =
    with_fields (λ lists. with_name (first_or [] lists) (codes "group"))
    (needs_names (codes "reduce") by (by_input (first_terms (length by))))
check_rule (rollup over metrics) =
    with_fields (λ lists. rolled_names over metrics)
    (needs_names (codes "rollup") over (by_input (first_terms (length over))))
check_rule (inner_join on) = needs_pairs (codes "innerJoin") on (joining on)
check_rule (left_outer_join on) = needs_pairs (codes "leftOuterJoin") on (joining on)
check_rule (intersect on) = needs_pairs (codes "intersect") on (filtering on)
check_rule (complement on) = needs_pairs (codes "complement") on (filtering on)
check_rule (hash_join on) = joining on
check_rule (outer_hash_join on) = joining on
check_rule (in_parallel collection workers by) = record (of_its_own (By by)) {
  fault = λ orders. first_fault (sort_fault (codes "parallel") by) orders;
  parted = λ keyless keys. parted_fault by keyless (first_or None keys);
  split = Some (record { workers = workers; sort = by });
  names = collection ∷ [];
  stands = λ roots place. holds_reads place.round && not place.in_parallel;
  inner = λ place. in_a_parallel;
}
check_rule (topic p) =
    record (by_effect (p.checkpoints ∷ p.collection ∷ []) holds_topic Other) {
      fields = λ lists. topic_names p.fl;
      follows = Some p.collection;
      reads = p.collection ∷ [];
    }
check_rule (update dest size) =
    record (running (dest ∷ []) holds_update Update) { itself = itself_fault dest }
check_rule (commit dest size) = running (dest ∷ []) holds_commit Commit
check_rule (daemon id interval terminate) = running [] holds_daemon Daemon

-- the order that an operator gives of the orders of its inputs and of their fields
abbrev pub order_given : Operator → List Order → List (List ByteList) → Order
order_given op orders lists = (check_rule op).order orders lists

-- the fields that an operator's tuples have, of those of its inputs
abbrev pub fields_given : Operator → List (List ByteList) → List ByteList
fields_given op lists = (check_rule op).fields lists

-- the keys that an operator gives, of the fields and keys of its inputs
abbrev pub keys_given : Operator → List (List ByteList) → List (Option (List ByteList))
    → Option (List ByteList)
keys_given op lists keys = (check_rule op).keys lists keys

-- the fault of an operator over inputs of these orders
abbrev pub need_at : Operator → List Order → Option CheckFault
need_at op orders = (check_rule op).fault orders

-- the fault of an operator whose input follows this collection as a topic
abbrev pub itself_at : Operator → Option ByteList → Option CheckFault
itself_at op followed = (check_rule op).itself followed

-- the fault of an operator over inputs of these keys, of which this is the first function without keys
abbrev pub parted_at : Operator → Option ByteList → List (Option (List ByteList))
    → Option CheckFault
parted_at op keyless keys = (check_rule op).parted keyless keys

-- the collection that an operator follows as a topic
abbrev pub followed_by : Operator → Option ByteList
followed_by op = (check_rule op).follows

-- how an operator splits its work
abbrev pub split_by : Operator → Option Split
split_by op = (check_rule op).split

-- whether an operator runs its input
abbrev pub runs_input : Operator → Bool
runs_input op = (check_rule op).runs

-- the collections that an operator reads
abbrev pub read_by : Operator → List ByteList
read_by op = (check_rule op).reads

-- the collections that an operator names
abbrev pub named_by : Operator → List ByteList
named_by op = (check_rule op).names

-- whether an operator may stand at a place
abbrev pub stands : Roots → Place → Operator → Bool
stands roots place op = (check_rule op).stands roots place

-- the place of the inputs of an operator that stands at a place
abbrev pub place_in : Operator → Place → Place
place_in op place = (check_rule op).inner place
