-- The conditions of arguments, one argument at a time.
use Rattle.std.proofs.Common.{◌≡◌, ℕ, ◌+◌, ◌<◌, ◌≤◌, List, [], ◌∷◌, ◌++◌, length, get_or, drop}
use Rattle.std.proofs.Common.{Option, Some, None, option_map, append_assoc, append-nil, refl, ap}
use Rattle.std.proofs.Common.{sym, ◌∙◌}
use Rattle.std.proofs.lemmas.List.{at_drop_more, at_drop_all, map-append}
use Rattle.expr_reader.specs.Tree.{ArgTree, trees_of}
use Rattle.expr_types.specs.ConditionTree.{ConditionTree}
use Rattle.expr_types.specs.ConditionViews.{condition_tree, condition_trees}
use Rattle.expr_types.specs.declared.condition.Condition.{Condition}
use Rattle.expr_plan.specs.ConditionReading.{condition_in, conditions_of, and_those}

-- conditions, and then those that were read, if they were
abbrev pub and_then_those : List ConditionTree → Option (List ConditionTree)
    → Option (List ConditionTree)
and_then_those conditions more = option_map (λ rest. conditions ++ rest) more

-- the conditions from a place on are that of the argument there and those of the rest
conditions_of-drop : (args : List ArgTree) (k : ℕ) (a : ArgTree) → k < length args
    → a ≡ get_or args k a
    → conditions_of (trees_of (drop k args))
    ≡ and_those (condition_in a) (conditions_of (trees_of (drop (k + 1) args)))
conditions_of-drop args k a lt is =
    at_drop_more (λ rest. conditions_of (trees_of rest)) args k a lt
    ∙ ap (λ x. and_those (condition_in x) (conditions_of (trees_of (drop (k + 1) args)))) (sym is)

-- one more in front of the rest is one more behind those so far
and_those-moves : (conditions : List ConditionTree) (c : ConditionTree)
    (more : Option (List ConditionTree))
    → and_then_those conditions (and_those (Some c) more)
    ≡ and_then_those (conditions ++ c ∷ []) more
and_those-moves conditions c None = refl
and_those-moves conditions c (Some rest) = ap Some (sym (append_assoc conditions (c ∷ []) rest))

-- the trees of one condition more
pub condition_trees-push : (conditions : List Condition) (c : Condition)
    → condition_trees (conditions ++ c ∷ []) ≡ condition_trees conditions ++ condition_tree c ∷ []
condition_trees-push conditions c = map-append condition_tree conditions (c ∷ [])

-- after a condition that is read, the rest is left to do
pub condition_read : (args : List ArgTree) (k : ℕ) (a : ArgTree) (c : ConditionTree)
    (conditions : List ConditionTree) → k < length args → a ≡ get_or args k a
    → Some c ≡ condition_in a
    → conditions_of (trees_of args)
    ≡ and_then_those conditions (conditions_of (trees_of (drop k args)))
    → conditions_of (trees_of args)
    ≡ and_then_those (conditions ++ c ∷ []) (conditions_of (trees_of (drop (k + 1) args)))
condition_read args k a c conditions lt is read all =
    all
    ∙ ap (and_then_those conditions) (conditions_of-drop args k a lt is
    ∙ ap (λ x. and_those x (conditions_of (trees_of (drop (k + 1) args)))) (sym read))
    ∙ and_those-moves conditions c (conditions_of (trees_of (drop (k + 1) args)))

-- no conditions where one can't be read
pub condition_refused : (args : List ArgTree) (k : ℕ) (a : ArgTree)
    (conditions : List ConditionTree) → k < length args → a ≡ get_or args k a
    → None ≡ condition_in a
    → conditions_of (trees_of args)
    ≡ and_then_those conditions (conditions_of (trees_of (drop k args)))
    → None ≡ conditions_of (trees_of args)
condition_refused args k a conditions lt is read all =
    sym (all
    ∙ ap (and_then_those conditions) (conditions_of-drop args k a lt is
    ∙ ap (λ x. and_those x (conditions_of (trees_of (drop (k + 1) args)))) (sym read)))

-- behind the last argument they are all
pub conditions_read : (args : List ArgTree) (k : ℕ) (conditions : List ConditionTree)
    → length args ≤ k
    → conditions_of (trees_of args)
    ≡ and_then_those conditions (conditions_of (trees_of (drop k args)))
    → Some conditions ≡ conditions_of (trees_of args)
conditions_read args k conditions le all =
    sym (all
    ∙ ap (and_then_those conditions)
    (at_drop_all (λ rest. conditions_of (trees_of rest)) args k le)
    ∙ ap Some (append-nil conditions))
