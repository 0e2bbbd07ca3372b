-- The operator that a function with its parameters is (Solr Reference Guide, "Stream Source Reference"
-- and "Stream Decorator Reference"; what stands for a key that isn't given is own).
use Rattle.std.specs.Prelude.{List, [], ◌∷◌, Option, Some, None, codes}
use Rattle.tuple_values.specs.Document.{ByteList, Doc, put}
use Rattle.tuple_values.specs.Views.{datum_of}
use Rattle.expr_types.specs.ConditionTree.{ConditionTree, all_of, no_conditions}
use Rattle.expr_types.specs.ExprTree.{Operator, search, tuple, select, having, sort, top, unique}
use Rattle.expr_types.specs.ExprTree.{merge, reduce, rollup, inner_join, left_outer_join, intersect}
use Rattle.expr_types.specs.ExprTree.{complement, hash_join, outer_hash_join, in_parallel, topic}
use Rattle.expr_types.specs.ExprTree.{update, commit, daemon}
use Rattle.expr_plan.specs.Given.{Walked, param_at, text_in, names_in, names_maybe, sort_in}
use Rattle.expr_plan.specs.Given.{pairs_in, query_in, kept_query_in, kept_text_in, number_in, count_or}
use Rattle.expr_plan.specs.Given.{small_in, flag_in, group_in, items_in, metrics_in}
use Rattle.expr_plan.specs.declared.param.Given.{Given}
use Rattle.expr_plan.specs.declared.param.Param.{Param}
use Rattle.expr_plan.specs.declared.param.Param.TheVariants as param
use Rattle.expr_plan.specs.declared.row.Function.{Function}
use Rattle.expr_plan.specs.declared.row.Function.TheVariants.{Search, Tuple, Select, Having}
use Rattle.expr_plan.specs.declared.row.Function.TheVariants.{Sort, Top, Unique, Merge}
use Rattle.expr_plan.specs.declared.row.Function.TheVariants.{Reduce, Rollup, InnerJoin}
use Rattle.expr_plan.specs.declared.row.Function.TheVariants.{LeftOuterJoin, Intersect}
use Rattle.expr_plan.specs.declared.row.Function.TheVariants.{Complement, HashJoin}
use Rattle.expr_plan.specs.declared.row.Function.TheVariants.{OuterHashJoin, Parallel, Topic}
use Rattle.expr_plan.specs.declared.row.Function.TheVariants.{Update, Commit, Daemon}

-- the fields with one literal
abbrev pub with_field : Doc → ByteList → Param → Doc
with_field doc name (param.Literal v) = put name (datum_of v) doc
with_field doc name p = doc

-- the fields with the literals
abbrev pub with_fields : Doc → List Given → Doc
with_fields doc [] = doc
with_fields doc (g ∷ given) = with_fields (with_field doc g.name g.param) given

-- the condition; one that always holds where there is none
abbrev pub condition_or_all : Option ConditionTree → ConditionTree
condition_or_all None = all_of no_conditions
condition_or_all (Some condition) = condition

-- the search of these parameters
abbrev pub search_of : List Given → Operator
search_of given =
    search (record {
      collection = text_in (param_at (codes "collection") given);
      q = query_in (param_at (codes "q") given);
      fl = names_in (param_at (codes "fl") given);
      sort = sort_in (param_at (codes "sort") given);
      rows = number_in (param_at (codes "rows") given);
      partition_keys = names_maybe (param_at (codes "partitionKeys") given);
    })

-- the topic of these parameters
abbrev pub topic_of : List Given → Operator
topic_of given =
    topic (record {
      checkpoints = text_in (param_at (codes "checkpointCollection") given);
      collection = text_in (param_at (codes "collection") given);
      id = text_in (param_at (codes "id") given);
      q = kept_query_in (param_at (codes "q") given);
      q_text = kept_text_in (param_at (codes "q") given);
      fl = names_in (param_at (codes "fl") given);
      init = number_in (param_at (codes "initialCheckpoint") given);
    })

-- the operator of a function with these parameters
abbrev pub operator_of : Function → Walked → Operator
operator_of Search w = search_of w.given
operator_of Tuple w = tuple (with_fields [] w.given)
operator_of Select w = select (items_in w.given)
operator_of Having w = having (condition_or_all w.condition)
operator_of Sort w = sort (sort_in (param_at (codes "by") w.given))
operator_of Top w =
    top (count_or 0 (param_at (codes "n") w.given)) (sort_in (param_at (codes "sort") w.given))
operator_of Unique w = unique (names_in (param_at (codes "over") w.given))
operator_of Merge w = merge (sort_in (param_at (codes "on") w.given))
operator_of Reduce w =
    reduce (names_in (param_at (codes "by") w.given))
    (group_in (param_at (codes "group") w.given))
operator_of Rollup w = rollup (names_in (param_at (codes "over") w.given)) (metrics_in w.given)
operator_of InnerJoin w = inner_join (pairs_in (param_at (codes "on") w.given))
operator_of LeftOuterJoin w = left_outer_join (pairs_in (param_at (codes "on") w.given))
operator_of Intersect w = intersect (pairs_in (param_at (codes "on") w.given))
operator_of Complement w = complement (pairs_in (param_at (codes "on") w.given))
operator_of HashJoin w = hash_join (pairs_in (param_at (codes "on") w.given))
operator_of OuterHashJoin w = outer_hash_join (pairs_in (param_at (codes "on") w.given))
operator_of Parallel w =
    in_parallel (text_in (param_at (codes "workerCollection") w.given))
    (small_in (param_at (codes "workers") w.given))
    (sort_in (param_at (codes "sort") w.given))
operator_of Topic w = topic_of w.given
operator_of Update w =
    update (text_in (param_at (codes "destination") w.given))
    (count_or 250 (param_at (codes "batchSize") w.given))
operator_of Commit w =
    commit (text_in (param_at (codes "destination") w.given))
    (number_in (param_at (codes "batchSize") w.given))
operator_of Daemon w =
    daemon (text_in (param_at (codes "id") w.given))
    (count_or 1000 (param_at (codes "runInterval") w.given))
    (flag_in (param_at (codes "terminate") w.given))
