-- The trees that the program's conditions stand for (own).
use Rattle.std.specs.Prelude.{List, map}
use Rattle.tuple_values.specs.Views.{datum_of}
use Rattle.expr_types.specs.ConditionTree.{ConditionTree, compares, all_of, any_of, one_of, not_so}
use Rattle.expr_types.specs.ConditionTree.{trees_of}
use Rattle.expr_types.specs.declared.condition.Condition.{Condition, fold-Condition}
use Rattle.expr_types.specs.declared.condition.Condition.TheOpen.{Condition-F}

-- one level, with each condition inside already seen as its tree
abbrev pub condition_step : Condition-F ConditionTree → ConditionTree
condition_step (Condition-F.Compare test field literal) = compares test field (datum_of literal)
condition_step (Condition-F.All conditions) = all_of (trees_of conditions.items)
condition_step (Condition-F.Any conditions) = any_of (trees_of conditions.items)
condition_step (Condition-F.OneOf left right) = one_of left.value right.value
condition_step (Condition-F.Not condition) = not_so condition.value

-- what a condition is
abbrev pub condition_tree : Condition → ConditionTree
condition_tree = fold-Condition ConditionTree condition_step

-- what conditions are
abbrev pub condition_trees : List Condition → List ConditionTree
condition_trees conditions = map condition_tree conditions
