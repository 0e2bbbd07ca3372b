-- What is so of a whole expression: its order, its fields, its keys, its first fault, a call before its
-- inputs and inputs from the left to the right, and its collections (own).
use Rattle.std.specs.Prelude.{List, [], ◌∷◌, ◌++◌, Bool, Option, Some, None}
use Rattle.std.specs.Option.{option_or}
use Rattle.tuple_values.specs.Collections.{is_known}
use Rattle.tuple_values.specs.Document.{ByteList}
use Rattle.tuple_values.specs.declared.names.NameShards.{NameShards}
use Rattle.sort_spec.specs.Texts.{once}
use Rattle.expr_types.specs.ExprTree.{Operator, ExprTree, node, ExprTrees, no_exprs, an_expr}
use Rattle.expr_types.specs.ExprTree.{operator_in}
use Rattle.expr_types.specs.Names.{function_name}
use Rattle.expr_check.specs.Faults.{place_fault, first_unknown, unknown_fault}
use Rattle.expr_check.specs.Places.{at_root}
use Rattle.expr_check.specs.Rules.{order_given, fields_given, need_at, itself_at, followed_by}
use Rattle.expr_check.specs.Rules.{keys_given, parted_at, read_by, named_by, stands, place_in}
use Rattle.expr_check.specs.declared.order.Order.{Order}
use Rattle.expr_check.specs.declared.fault.CheckFault.{CheckFault}
use Rattle.expr_check.specs.declared.roots.Place.{Place}
use Rattle.expr_check.specs.declared.roots.Roots.{Roots}

-- the fields of an expression
abbrev mutual
  pub fields_of : ExprTree → List ByteList
  fields_of (node op inputs) = fields_given op (all_fields inputs)

  -- those of inputs
  pub all_fields : ExprTrees → List (List ByteList)
  all_fields no_exprs = []
  all_fields (an_expr e exprs) = fields_of e ∷ all_fields exprs

-- the order of an expression
abbrev mutual
  pub order_of : ExprTree → Order
  order_of (node op inputs) = order_given op (orders_of inputs) (all_fields inputs)

  -- the orders of inputs
  pub orders_of : ExprTrees → List Order
  orders_of no_exprs = []
  orders_of (an_expr e exprs) = order_of e ∷ orders_of exprs

-- the fields of an expression's tuples that carry the keys of its partitions
abbrev mutual
  pub keys_of : ExprTree → Option (List ByteList)
  keys_of (node op inputs) = keys_given op (all_fields inputs) (all_keys inputs)

  -- those of inputs
  pub all_keys : ExprTrees → List (Option (List ByteList))
  all_keys no_exprs = []
  all_keys (an_expr e exprs) = keys_of e ∷ all_keys exprs

-- a function, where it gives no keys
abbrev pub unkeyed : ByteList → Option (List ByteList) → Option ByteList
unkeyed function None = Some function
unkeyed function (Some keys) = None

-- the first function without keys, inputs before the call, inputs from the left to the right
abbrev mutual
  pub keyless_of : ExprTree → Option ByteList
  keyless_of (node op inputs) =
      option_or (keyless_in inputs)
      (unkeyed (function_name op) (keys_given op (all_fields inputs) (all_keys inputs)))

  -- that of inputs
  pub keyless_in : ExprTrees → Option ByteList
  keyless_in no_exprs = None
  keyless_in (an_expr e exprs) = option_or (keyless_of e) (keyless_in exprs)

-- the collection that the first input follows as a topic
abbrev pub followed_in : ExprTrees → Option ByteList
followed_in no_exprs = None
followed_in (an_expr e exprs) = followed_by (operator_in e)

-- the fault of an operator over these inputs, wherever it stands and whatever is there
abbrev pub own_at : Operator → ExprTrees → Option CheckFault
own_at op inputs =
    option_or (itself_at op (followed_in inputs))
    (option_or (need_at op (orders_of inputs))
    (parted_at op (keyless_in inputs) (all_keys inputs)))

-- the fault of an operator over these inputs at a place, where these collections are there
abbrev pub fault_at : Roots → Place → (ByteList → Bool) → Operator → ExprTrees
    → Option CheckFault
fault_at roots place is_there op inputs =
    option_or (place_fault (function_name op) (stands roots place op))
    (option_or (unknown_fault (first_unknown is_there (named_by op))) (own_at op inputs))

-- the first fault of an expression at a place, where these collections are there
abbrev mutual
  pub fault_where : Roots → Place → (ByteList → Bool) → ExprTree → Option CheckFault
  fault_where roots place is_there (node op inputs) =
      option_or (fault_at roots place is_there op inputs)
      (faults_where roots (place_in op place) is_there inputs)

  -- the first fault of inputs
  pub faults_where : Roots → Place → (ByteList → Bool) → ExprTrees → Option CheckFault
  faults_where roots place is_there no_exprs = None
  faults_where roots place is_there (an_expr e exprs) =
      option_or (fault_where roots place is_there e) (faults_where roots place is_there exprs)

-- the first fault of an expression over collections of these names
abbrev pub fault_of : Roots → List NameShards → ExprTree → Option CheckFault
fault_of roots names t = fault_where roots at_root (λ name. is_known name names) t

-- the first fault of an expression but those of a place or of a collection
abbrev mutual
  pub own_fault : ExprTree → Option CheckFault
  own_fault (node op inputs) = option_or (own_at op inputs) (own_faults inputs)

  -- the same of inputs
  pub own_faults : ExprTrees → Option CheckFault
  own_faults no_exprs = None
  own_faults (an_expr e exprs) = option_or (own_fault e) (own_faults exprs)

-- the collections that are read, a call before its inputs, inputs from the left to the right
abbrev mutual
  pub searched_in : ExprTree → List ByteList
  searched_in (node op inputs) = read_by op ++ all_searched inputs

  -- those of inputs
  pub all_searched : ExprTrees → List ByteList
  all_searched no_exprs = []
  all_searched (an_expr e exprs) = searched_in e ++ all_searched exprs

-- the collections that an expression names
abbrev mutual
  pub named_in : ExprTree → List ByteList
  named_in (node op inputs) = named_by op ++ all_named inputs

  -- those of inputs
  pub all_named : ExprTrees → List ByteList
  all_named no_exprs = []
  all_named (an_expr e exprs) = named_in e ++ all_named exprs

-- the collections, each once
abbrev pub collections_of : ExprTree → List ByteList
collections_of e = once (searched_in e)
