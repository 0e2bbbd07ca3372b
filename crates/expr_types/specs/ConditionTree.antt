-- What a condition says, as a tree (Solr Reference Guide, "Stream Decorator Reference", having).
use Rattle.std.specs.Prelude.{List, [], ◌∷◌}
use Rattle.tuple_values.specs.Document.{ByteList, Datum}
use Rattle.expr_types.specs.declared.condition.Comparison.{Comparison}

mutual
  -- a comparison of a field with a literal, all, any, just one of two, or not
  pub data ConditionTree : Type 0 where
    compares : Comparison → ByteList → Datum → ConditionTree
    all_of : ConditionTrees → ConditionTree
    any_of : ConditionTrees → ConditionTree
    one_of : ConditionTree → ConditionTree → ConditionTree
    not_so : ConditionTree → ConditionTree

  -- conditions in order
  pub data ConditionTrees : Type 0 where
    no_conditions : ConditionTrees
    a_condition : ConditionTree → ConditionTrees → ConditionTrees

-- a list of conditions as those of a condition
abbrev pub trees_of : List ConditionTree → ConditionTrees
trees_of [] = no_conditions
trees_of (c ∷ conditions) = a_condition c (trees_of conditions)
