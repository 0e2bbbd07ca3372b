-- The functions that are known, a row for each (Solr Reference Guide, "Stream Source Reference" and
-- "Stream Decorator Reference"; limits own).
use Rattle.std.specs.Prelude.{List, [], ◌∷◌, Option, Some, None, codes}
use Rattle.tuple_values.specs.Document.{ByteList}
use Rattle.expr_types.specs.Limits.{count_limit, row_limit, checkpoint_limit, worker_limit}
use Rattle.expr_types.specs.Limits.{batch_limit, interval_limit}
use Rattle.expr_plan.specs.declared.row.Function.{Function}
use Rattle.expr_plan.specs.declared.row.Function.TheVariants.{Search, Tuple, Select, Having}
use Rattle.expr_plan.specs.declared.row.Function.TheVariants.{Sort, Top, Unique, Merge}
use Rattle.expr_plan.specs.declared.row.Function.TheVariants.{Reduce, Rollup, InnerJoin}
use Rattle.expr_plan.specs.declared.row.Function.TheVariants.{LeftOuterJoin, Intersect}
use Rattle.expr_plan.specs.declared.row.Function.TheVariants.{Complement, HashJoin}
use Rattle.expr_plan.specs.declared.row.Function.TheVariants.{OuterHashJoin, Parallel, Topic}
use Rattle.expr_plan.specs.declared.row.Function.TheVariants.{Update, Commit, Daemon}
use Rattle.expr_plan.specs.declared.row.Helpers.{Helpers}
use Rattle.expr_plan.specs.declared.row.Helpers.TheVariants as helpers
use Rattle.expr_plan.specs.declared.row.Inputs.{Inputs}
use Rattle.expr_plan.specs.declared.row.Inputs.TheVariants.{Exactly, AtLeast}
use Rattle.expr_plan.specs.declared.row.Shape.{Shape}
use Rattle.expr_plan.specs.declared.row.Shape.TheVariants as shape

-- a key, and what the value under it is to be
abbrev pub KeyShape : Type 0
KeyShape = ByteList × Shape

-- what a function takes: so many inputs, operands, calls that are no inputs, keys that have to be
-- given and others that may be, and a value of this shape under any further key
pub record FunctionRow : Type 0 where
  pub name : ByteList
  pub inputs : Inputs
  pub operands : List ByteList
  pub helpers : Helpers
  pub mandatory : List KeyShape
  pub optional : List KeyShape
  pub others : Option Shape

-- a function that takes these inputs alone
abbrev pub a_row : ByteList → Inputs → FunctionRow
a_row name inputs = record {
  name = name;
  inputs = inputs;
  operands = [];
  helpers = helpers.Nothing;
  mandatory = [];
  optional = [];
  others = None;
}

-- a function that reads two inputs side by side by pairs
abbrev pub paired_row : ByteList → FunctionRow
paired_row name =
    record (a_row name (Exactly 2)) { mandatory = (codes "on", shape.Pairs) ∷ [] }

-- a function of an input and of one under a key, by pairs
abbrev pub hashed_row : ByteList → FunctionRow
hashed_row name = record (a_row name (Exactly 1)) {
  mandatory = (codes "hashed", shape.Input) ∷ (codes "on", shape.Pairs) ∷ [];
}

-- the table; what has to be given stands in the order in which it is missed
abbrev pub row_of : Function → FunctionRow
row_of Search = record (a_row (codes "search") (Exactly 0)) {
  operands = codes "collection" ∷ [];
  mandatory =
      (codes "q", shape.Query)
      ∷ (codes "fl", shape.FieldNames)
      ∷ (codes "sort", shape.Sort)
      ∷ [];
  optional =
      (codes "rows", shape.Number 0 row_limit)
      ∷ (codes "qt", shape.Anything)
      ∷ (codes "partitionKeys", shape.Names)
      ∷ [];
}
row_of Tuple = record (a_row (codes "tuple") (Exactly 0)) { others = Some shape.Literal }
row_of Select = record (a_row (codes "select") (Exactly 1)) { helpers = helpers.Items }
row_of Having = record (a_row (codes "having") (Exactly 1)) { helpers = helpers.Condition }
row_of Sort =
    record (a_row (codes "sort") (Exactly 1)) { mandatory = (codes "by", shape.Sort) ∷ [] }
row_of Top = record (a_row (codes "top") (Exactly 1)) {
  mandatory = (codes "n", shape.Number 1 count_limit) ∷ (codes "sort", shape.Sort) ∷ [];
}
row_of Unique =
    record (a_row (codes "unique") (Exactly 1)) { mandatory = (codes "over", shape.Names) ∷ [] }
row_of Merge =
    record (a_row (codes "merge") (AtLeast 2)) { mandatory = (codes "on", shape.Sort) ∷ [] }
row_of Reduce = record (a_row (codes "reduce") (Exactly 1)) {
  helpers = helpers.Group;
  mandatory = (codes "by", shape.Names) ∷ [];
}
row_of Rollup = record (a_row (codes "rollup") (Exactly 1)) {
  helpers = helpers.Metrics;
  mandatory = (codes "over", shape.Names) ∷ [];
}
row_of InnerJoin = paired_row (codes "innerJoin")
row_of LeftOuterJoin = paired_row (codes "leftOuterJoin")
row_of Intersect = paired_row (codes "intersect")
row_of Complement = paired_row (codes "complement")
row_of HashJoin = hashed_row (codes "hashJoin")
row_of OuterHashJoin = hashed_row (codes "outerHashJoin")
row_of Parallel = record (a_row (codes "parallel") (Exactly 1)) {
  operands = codes "workerCollection" ∷ [];
  mandatory = (codes "workers", shape.Small 1 worker_limit) ∷ (codes "sort", shape.Sort) ∷ [];
}
row_of Topic = record (a_row (codes "topic") (Exactly 0)) {
  operands = codes "checkpointCollection" ∷ codes "collection" ∷ [];
  mandatory =
      (codes "id", shape.Id)
      ∷ (codes "q", shape.KeptQuery)
      ∷ (codes "fl", shape.FieldNames)
      ∷ [];
  optional = (codes "initialCheckpoint", shape.Number 0 checkpoint_limit) ∷ [];
}
row_of Update = record (a_row (codes "update") (Exactly 1)) {
  operands = codes "destination" ∷ [];
  optional =
      (codes "batchSize", shape.Number 1 batch_limit)
      ∷ (codes "pruneVersionField", shape.True)
      ∷ [];
}
row_of Commit = record (a_row (codes "commit") (Exactly 1)) {
  operands = codes "destination" ∷ [];
  optional =
      (codes "batchSize", shape.Number 0 batch_limit)
      ∷ (codes "waitFlush", shape.Flag)
      ∷ (codes "waitSearcher", shape.Flag)
      ∷ (codes "softCommit", shape.Flag)
      ∷ [];
}
row_of Daemon = record (a_row (codes "daemon") (Exactly 1)) {
  mandatory = (codes "id", shape.Id) ∷ [];
  optional =
      (codes "runInterval", shape.Number 0 interval_limit)
      ∷ (codes "terminate", shape.Flag)
      ∷ [];
}

-- each function, in the order of the table
abbrev pub functions : List Function
functions =
    Search ∷ Tuple ∷ Select ∷ Having ∷ Sort ∷ Top ∷ Unique ∷ Merge ∷ Reduce ∷ Rollup ∷ InnerJoin
    ∷ LeftOuterJoin ∷ Intersect ∷ Complement ∷ HashJoin ∷ OuterHashJoin ∷ Parallel ∷ Topic ∷ Update
    ∷ Commit ∷ Daemon ∷ []
