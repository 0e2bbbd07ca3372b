-- The names of functions, as they are written in expressions (Solr Reference Guide, "Stream Source
-- Reference" and "Stream Decorator Reference").
use Rattle.std.specs.Prelude.{codes}
use Rattle.tuple_values.specs.Document.{ByteList}
use Rattle.expr_types.specs.ExprTree.{Operator, search, tuple, select, having, sort, top, unique}
use Rattle.expr_types.specs.ExprTree.{merge, reduce, rollup, inner_join, left_outer_join, intersect}
use Rattle.expr_types.specs.ExprTree.{complement, hash_join, outer_hash_join, in_parallel, topic}
use Rattle.expr_types.specs.ExprTree.{update, commit, daemon}

-- the name of a function
abbrev pub function_name : Operator → ByteList
function_name (search p) = codes "search"
function_name (tuple fields) = codes "tuple"
function_name (select items) = codes "select"
function_name (having condition) = codes "having"
function_name (sort by) = codes "sort"
function_name (top n by) = codes "top"
function_name (unique over) = codes "unique"
function_name (merge on) = codes "merge"
function_name (reduce by op) = codes "reduce"
function_name (rollup over metrics) = codes "rollup"
function_name (inner_join on) = codes "innerJoin"
function_name (left_outer_join on) = codes "leftOuterJoin"
function_name (intersect on) = codes "intersect"
function_name (complement on) = codes "complement"
function_name (hash_join on) = codes "hashJoin"
function_name (outer_hash_join on) = codes "outerHashJoin"
function_name (in_parallel collection workers by) = codes "parallel"
function_name (topic p) = codes "topic"
function_name (update dest size) = codes "update"
function_name (commit dest size) = codes "commit"
function_name (daemon id interval terminate) = codes "daemon"
