-- What the arguments of a call give, from the left to the right, or the first fault among them
-- (own).
use Rattle.std.specs.Prelude.{Bool, true, false, ◌&&◌, List, [], ◌∷◌, ◌++◌, Option, Some, None}
use Rattle.std.specs.Prelude.{Result, Ok, option_map, codes, if◌then◌else◌}
use Rattle.tuple_values.specs.Document.{ByteList}
use Rattle.expr_reader.specs.Tree.{CallTree, ArgTree, plain, named, named_call, sub, renamed}
use Rattle.expr_reader.specs.Tree.{ArgTrees, no_args, an_arg}
use Rattle.expr_types.specs.ConditionTree.{ConditionTree}
use Rattle.expr_types.specs.ConditionViews.{condition_tree}
use Rattle.expr_types.specs.declared.item.Item.{Item}
use Rattle.expr_plan.specs.ConditionReading.{condition_of}
use Rattle.expr_plan.specs.Fault.{and_then}
use Rattle.expr_plan.specs.Functions.{shape_of, next_operand, helpers_of}
use Rattle.expr_plan.specs.Given.{Walked, is_given}
use Rattle.expr_plan.specs.GroupReading.{group_of_call}
use Rattle.expr_plan.specs.Helpers.{is_helper, helper_name, is_full, are_items, names_any}
use Rattle.expr_plan.specs.Items.{field_item, item_of_call, metric_of_call, renamed_item}
use Rattle.expr_plan.specs.Shapes.{bad, read_as}
use Rattle.expr_plan.specs.declared.fault.PlanFault.{PlanFault}
use Rattle.expr_plan.specs.declared.row.Function.{Function}
use Rattle.expr_plan.specs.declared.param.Param.{Param}
use Rattle.expr_plan.specs.declared.param.Param.TheVariants as param
use Rattle.expr_plan.specs.declared.param.Params.{Params}
use Rattle.expr_plan.specs.declared.row.Helpers.{Helpers}
use Rattle.expr_plan.specs.declared.row.Helpers.TheVariants as helpers
use Rattle.expr_plan.specs.declared.row.Shape.{Shape}
use Rattle.expr_plan.specs.declared.row.Shape.TheVariants as shape

-- what the program's parameters are
abbrev pub walked : Params → Walked
walked p = record { given = p.items.items; condition = option_map condition_tree p.condition }

-- one parameter more
abbrev pub with_param : Walked → ByteList → Param → Walked
with_param w name p = record w { given = w.given ++ record { name = name; param = p } ∷ [] }

-- an operand more, if the function takes one
abbrev pub with_operand : Function → Walked → ByteList → Option ByteList → Result Walked PlanFault
with_operand f w text None = bad f (codes "operand")
with_operand f w text (Some name) = Ok (with_param w name (param.Plain text))

-- what was read of a helper
abbrev pub with_read : Function → Walked → Option Param → Result Walked PlanFault
with_read f w None = bad f (helper_name f)
with_read f w (Some p) = Ok (with_param w (helper_name f) p)

-- what was read as an item
abbrev pub with_item : Function → Walked → Option Item → Result Walked PlanFault
with_item f w item = with_read f w (option_map param.Item item)

-- a plain word: an item where there are items, else an operand
abbrev pub with_plain : Function → Walked → ByteList → Result Walked PlanFault
with_plain f w text =
    if are_items (helpers_of f) then with_item f w (field_item text)
    else with_operand f w text (next_operand f w.given)

-- a parameter that was read under a key, unless it names a field that the function makes
abbrev pub with_named : Function → List ByteList → Walked → ByteList → Param
    → Result Walked PlanFault
with_named f made w key p = if names_any made p then bad f key else Ok (with_param w key p)

-- a word under a key: one of the function's, which isn't given before
abbrev pub with_word : Function → List ByteList → Walked → ByteList → ByteList → Bool
    → Option Shape → Result Walked PlanFault
with_word f made w key text quoted None = bad f key
with_word f made w key text quoted (Some shape) =
    if is_given key w.given then bad f key
    else and_then (read_as shape f key text quoted) (with_named f made w key)

-- whether what has this shape may be a call
abbrev pub may_be_call : Shape → Bool
may_be_call shape.Literal = false
may_be_call shape.Anything = true
may_be_call shape.Names = false
may_be_call shape.FieldNames = false
may_be_call shape.Sort = false
may_be_call shape.Pairs = false
may_be_call shape.Query = false
may_be_call shape.KeptQuery = false
may_be_call (shape.Number low high) = false
may_be_call (shape.Small low high) = false
may_be_call shape.Id = false
may_be_call shape.Flag = false
may_be_call shape.True = false
may_be_call shape.Input = true

-- a call under a key
abbrev pub with_call : Function → Walked → ByteList → Option Shape → Result Walked PlanFault
with_call f w key None = bad f key
with_call f w key (Some shape) =
    if is_given key w.given then bad f key
    else (if may_be_call shape then Ok (with_param w key param.Nothing) else bad f key)

-- a condition
abbrev pub with_condition : Function → Walked → Option ConditionTree → Result Walked PlanFault
with_condition f w None = bad f (codes "condition")
with_condition f w (Some condition) =
    Ok (record (with_param w (codes "condition") param.Nothing) { condition = Some condition })

-- one of these helpers
abbrev pub with_helper : Helpers → Function → Walked → CallTree → Result Walked PlanFault
with_helper helpers.Nothing f w c = Ok w
with_helper helpers.Items f w c = with_item f w (item_of_call c)
with_helper helpers.Condition f w c = with_condition f w (condition_of c)
with_helper helpers.Group f w c = with_read f w (option_map param.Group (group_of_call c))
with_helper helpers.Metrics f w c = with_read f w (option_map param.Metric (metric_of_call c))

-- a call: an input, which gives none of these, or a helper, of which there may be too many
abbrev pub with_sub : Function → Walked → CallTree → Result Walked PlanFault
with_sub f w c =
    if is_helper f c
    then (if is_full f w.given then bad f (codes "operand") else with_helper (helpers_of f) f w c)
    else Ok w

-- a call with a new name: an item where there are items, else an operand too many
abbrev pub with_renamed : Function → Walked → CallTree → ByteList → Result Walked PlanFault
with_renamed f w c to =
    if are_items (helpers_of f) && is_helper f c then with_item f w (renamed_item c to)
    else bad f (codes "operand")

-- one argument
abbrev pub with_arg : Function → List ByteList → Walked → ArgTree → Result Walked PlanFault
with_arg f made w (plain text quoted) = with_plain f w text
with_arg f made w (named key text quoted) =
    with_word f made w key text quoted (shape_of f key)
with_arg f made w (named_call key c) = with_call f w key (shape_of f key)
with_arg f made w (sub c) = with_sub f w c
with_arg f made w (renamed c to) = with_renamed f w c to

-- all arguments
abbrev pub with_args : Function → List ByteList → Walked → ArgTrees → Result Walked PlanFault
with_args f made w no_args = Ok w
with_args f made w (an_arg a args) =
    and_then (with_arg f made w a) (λ more. with_args f made more args)
