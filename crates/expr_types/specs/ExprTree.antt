-- What an expression says, as a tree of operators (Solr Reference Guide, "Streaming Expressions").
use Rattle.std.specs.Prelude.{ℕ, List, [], ◌∷◌, Option, Bool}
use Rattle.tuple_values.specs.Document.{ByteList, Doc}
use Rattle.query_syntax.specs.Tree.{ClauseTree}
use Rattle.sort_spec.specs.declared.term.SortTerm.{SortTerm}
use Rattle.sort_spec.specs.declared.pair.OnPair.{OnPair}
use Rattle.expr_types.specs.ConditionTree.{ConditionTree}
use Rattle.expr_types.specs.ConditionViews.{condition_tree}
use Rattle.expr_types.specs.declared.expr.Expr.{Expr, fold-Expr}
use Rattle.expr_types.specs.declared.expr.Expr.TheOpen.{Expr-F}
use Rattle.expr_types.specs.declared.item.Item.{Item}
use Rattle.expr_types.specs.declared.item.Metric.{Metric}
use Rattle.expr_types.specs.declared.item.GroupOp.{GroupOp}

-- which documents a search gives, and how
pub record SearchParts : Type 0 where
  pub collection : ByteList
  pub q : List ClauseTree
  pub fl : List ByteList
  pub sort : List SortTerm
  pub rows : Option ℕ
  pub partition_keys : Option (List ByteList)

-- which documents a topic gives, and where its checkpoint is kept
pub record TopicParts : Type 0 where
  pub checkpoints : ByteList
  pub collection : ByteList
  pub id : ByteList
  pub q : List ClauseTree
  pub q_text : ByteList
  pub fl : List ByteList
  pub init : Option ℕ

-- a function with its parameters
pub data Operator : Type 0 where
  search : SearchParts → Operator
  tuple : Doc → Operator
  select : List Item → Operator
  having : ConditionTree → Operator
  sort : List SortTerm → Operator
  top : ℕ → List SortTerm → Operator
  unique : List ByteList → Operator
  merge : List SortTerm → Operator
  reduce : List ByteList → GroupOp → Operator
  rollup : List ByteList → List Metric → Operator
  inner_join : List OnPair → Operator
  left_outer_join : List OnPair → Operator
  intersect : List OnPair → Operator
  complement : List OnPair → Operator
  hash_join : List OnPair → Operator
  outer_hash_join : List OnPair → Operator
  in_parallel : ByteList → ℕ → List SortTerm → Operator
  topic : TopicParts → Operator
  update : ByteList → ℕ → Operator
  commit : ByteList → Option ℕ → Operator
  daemon : ByteList → ℕ → Bool → Operator

mutual
  -- an expression is an operator over its inputs
  pub data ExprTree : Type 0 where
    node : Operator → ExprTrees → ExprTree

  -- inputs in order: left before right, the input before what is hashed
  pub data ExprTrees : Type 0 where
    no_exprs : ExprTrees
    an_expr : ExprTree → ExprTrees → ExprTrees

-- a list of expressions as inputs
abbrev pub inputs_of : List ExprTree → ExprTrees
inputs_of [] = no_exprs
inputs_of (e ∷ exprs) = an_expr e (inputs_of exprs)

-- inputs as a list
abbrev pub expr_list : ExprTrees → List ExprTree
expr_list no_exprs = []
expr_list (an_expr e exprs) = e ∷ expr_list exprs

-- the operator of an expression
abbrev pub operator_in : ExprTree → Operator
operator_in (node op exprs) = op

-- the inputs of an expression, in order
abbrev pub inputs_in : ExprTree → List ExprTree
inputs_in (node op exprs) = expr_list exprs

-- the first, or this where there is none
abbrev pub first_or : {X : Type 0} → X → List X → X
first_or other [] = other
first_or other (x ∷ xs) = x

-- the second, or this where there is none
abbrev pub second_or : {X : Type 0} → X → List X → X
second_or other [] = other
second_or other (x ∷ xs) = first_or other xs

-- one level, with each input already seen as its tree
abbrev pub expr_step : Expr-F ExprTree → ExprTree
expr_step (Expr-F.Search collection q fl by rows keys) =
    node (search (record {
      collection = collection;
      q = q.clauses;
      fl = fl;
      sort = by;
      rows = rows;
      partition_keys = keys;
    })) (inputs_of [])
expr_step (Expr-F.Tuple fields) = node (tuple fields) (inputs_of [])
expr_step (Expr-F.Select input items) = node (select items) (inputs_of (input.value ∷ []))
expr_step (Expr-F.Having input condition) =
    node (having (condition_tree condition)) (inputs_of (input.value ∷ []))
expr_step (Expr-F.Sort input by) = node (sort by) (inputs_of (input.value ∷ []))
expr_step (Expr-F.Top input n by) = node (top n by) (inputs_of (input.value ∷ []))
expr_step (Expr-F.Unique input over) = node (unique over) (inputs_of (input.value ∷ []))
expr_step (Expr-F.Merge inputs on) = node (merge on) (inputs_of inputs.items)
expr_step (Expr-F.Reduce input by group) = node (reduce by group) (inputs_of (input.value ∷ []))
expr_step (Expr-F.Rollup input over metrics) =
    node (rollup over metrics) (inputs_of (input.value ∷ []))
expr_step (Expr-F.InnerJoin left right on) =
    node (inner_join on) (inputs_of (left.value ∷ right.value ∷ []))
expr_step (Expr-F.LeftOuterJoin left right on) =
    node (left_outer_join on) (inputs_of (left.value ∷ right.value ∷ []))
expr_step (Expr-F.Intersect left right on) =
    node (intersect on) (inputs_of (left.value ∷ right.value ∷ []))
expr_step (Expr-F.Complement left right on) =
    node (complement on) (inputs_of (left.value ∷ right.value ∷ []))
expr_step (Expr-F.HashJoin input hashed on) =
    node (hash_join on) (inputs_of (input.value ∷ hashed.value ∷ []))
expr_step (Expr-F.OuterHashJoin input hashed on) =
    node (outer_hash_join on) (inputs_of (input.value ∷ hashed.value ∷ []))
expr_step (Expr-F.Parallel input collection workers by) =
    node (in_parallel collection workers by) (inputs_of (input.value ∷ []))
expr_step (Expr-F.Topic checkpoints collection id q q_text fl init) =
    node (topic (record {
      checkpoints = checkpoints;
      collection = collection;
      id = id;
      q = q.clauses;
      q_text = q_text;
      fl = fl;
      init = init;
    })) (inputs_of [])
expr_step (Expr-F.Update input dest size) =
    node (update dest size) (inputs_of (input.value ∷ []))
expr_step (Expr-F.Commit input dest size) =
    node (commit dest size) (inputs_of (input.value ∷ []))
expr_step (Expr-F.Daemon input id interval terminate) =
    node (daemon id interval terminate) (inputs_of (input.value ∷ []))

-- what an expression is
abbrev pub expr_tree : Expr → ExprTree
expr_tree = fold-Expr ExprTree expr_step
