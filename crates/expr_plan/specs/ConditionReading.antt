-- What the conditions say that stand among arguments (Solr Reference Guide, "Stream Decorator
-- Reference", having).
use Rattle.std.specs.Prelude.{◌==◌, List, [], ◌∷◌, length, Option, Some, None, option_map}
use Rattle.std.specs.Prelude.{bytes_eq, codes, slice_get, if◌then◌else◌}
use Rattle.std.specs.Option.{option_and_then}
use Rattle.tuple_values.specs.Document.{ByteList}
use Rattle.tuple_values.specs.Views.{datum_of}
use Rattle.expr_reader.specs.Tree.{CallTree, call, ArgTree, plain, named, named_call, sub, renamed}
use Rattle.expr_reader.specs.Tree.{ArgTrees, no_args, an_arg}
use Rattle.expr_reader.specs.declared.call.Word.{Word}
use Rattle.expr_types.specs.ConditionTree.{ConditionTree, compares, all_of, any_of, one_of, not_so}
use Rattle.expr_types.specs.ConditionTree.{trees_of}
use Rattle.expr_types.specs.Groups.{metric_name}
use Rattle.expr_plan.specs.Items.{metric_of_call}
use Rattle.expr_plan.specs.Literals.{literal}
use Rattle.expr_plan.specs.Words.{is_field, arg_list, plain_of}
use Rattle.expr_types.specs.declared.condition.Comparison.{Comparison}
use Rattle.expr_types.specs.declared.condition.Comparison.TheVariants.{Eq, Gt, Lt, Gteq, Lteq}

-- the comparison of a name
abbrev pub comparison_of : ByteList → Option Comparison
comparison_of name =
    if bytes_eq name (codes "eq") then Some Eq
    else (if bytes_eq name (codes "gt") then Some Gt
    else (if bytes_eq name (codes "lt") then Some Lt
    else (if bytes_eq name (codes "gteq") then Some Gteq
    else (if bytes_eq name (codes "lteq") then Some Lteq else None))))

-- the field that an argument is: a plain word, or a metric, whose name it then is
abbrev pub compared_field : ArgTree → Option ByteList
compared_field (plain text quoted) = if is_field text then Some text else None
compared_field (named key text quoted) = None
compared_field (named_call key c) = None
compared_field (sub c) = option_map metric_name (metric_of_call c)
compared_field (renamed c to) = None

-- a comparison of a field with a literal
abbrev pub compared : Comparison → Option ByteList → Option Word → Option ConditionTree
compared test (Some field) (Some w) =
    Some (compares test field (datum_of (literal w.text w.quoted)))
compared test _ _ = None

-- the comparison of two arguments, a field and a plain word
abbrev pub compare_called : Comparison → List ArgTree → Option ConditionTree
compare_called test args =
    if length args == 2
    then compared test (option_and_then compared_field (slice_get args 0))
    (option_and_then plain_of (slice_get args 1))
    else None

-- all of two or more conditions
abbrev pub all_of_several : List ConditionTree → Option ConditionTree
all_of_several (a ∷ b ∷ rest) = Some (all_of (trees_of (a ∷ b ∷ rest)))
all_of_several _ = None

-- any of two or more conditions
abbrev pub any_of_several : List ConditionTree → Option ConditionTree
any_of_several (a ∷ b ∷ rest) = Some (any_of (trees_of (a ∷ b ∷ rest)))
any_of_several _ = None

-- just one of two conditions
abbrev pub one_of_two : List ConditionTree → Option ConditionTree
one_of_two (a ∷ b ∷ []) = Some (one_of a b)
one_of_two _ = None

-- not one condition
abbrev pub not_one : List ConditionTree → Option ConditionTree
not_one (a ∷ []) = Some (not_so a)
not_one _ = None

-- conditions under a name
abbrev pub joined : ByteList → List ConditionTree → Option ConditionTree
joined name conditions =
    if bytes_eq name (codes "and") then all_of_several conditions
    else (if bytes_eq name (codes "or") then any_of_several conditions
    else (if bytes_eq name (codes "eor") then one_of_two conditions
    else (if bytes_eq name (codes "not") then not_one conditions else None)))

-- the condition of a name with arguments, and the conditions that these are: a comparison has none
abbrev pub condition_by : ByteList → Option Comparison → List ArgTree
    → Option (List ConditionTree) → Option ConditionTree
condition_by name (Some test) args conditions = compare_called test args
condition_by name None args conditions = option_and_then (joined name) conditions

-- a condition and those after it, if each can be read
abbrev pub and_those : Option ConditionTree → Option (List ConditionTree)
    → Option (List ConditionTree)
and_those (Some c) (Some conditions) = Some (c ∷ conditions)
and_those _ _ = None

abbrev mutual
  -- the condition that a call is
  pub condition_of : CallTree → Option ConditionTree
  condition_of (call name args) =
      condition_by name (comparison_of name) (arg_list args) (conditions_of args)

  -- the conditions that arguments are, if each is one
  pub conditions_of : ArgTrees → Option (List ConditionTree)
  conditions_of no_args = Some []
  conditions_of (an_arg a args) = and_those (condition_in a) (conditions_of args)

  -- the condition that an argument is
  pub condition_in : ArgTree → Option ConditionTree
  condition_in (plain text quoted) = None
  condition_in (named key text quoted) = None
  condition_in (named_call key c) = None
  condition_in (sub c) = condition_of c
  condition_in (renamed c to) = None
