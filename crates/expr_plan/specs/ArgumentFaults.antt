-- The faults of an argument, by the names of those before it (own).
use Rattle.std.specs.Prelude.{Bool, true, not, ◌&&◌, List, [], ◌∷◌, ◌++◌, Option, Some, None}
use Rattle.std.specs.Prelude.{Result, Ok, Err, is_some, codes, if◌then◌else◌}
use Rattle.std.specs.List.{cons_option, find}
use Rattle.tuple_values.specs.Document.{ByteList, is_named}
use Rattle.expr_reader.specs.Tree.{CallTree, ArgTree, plain, named, named_call, sub, renamed}
use Rattle.expr_reader.specs.Tree.{ArgTrees, no_args, an_arg}
use Rattle.expr_plan.specs.Arguments.{may_be_call}
use Rattle.expr_plan.specs.ConditionReading.{condition_of}
use Rattle.expr_plan.specs.Functions.{name_of, shape_of, operands, helpers_of}
use Rattle.expr_plan.specs.GroupReading.{group_of_call}
use Rattle.expr_plan.specs.Helpers.{is_helper, helper_name, are_items, is_single, names_any}
use Rattle.expr_plan.specs.Items.{field_item, item_of_call, metric_of_call, renamed_item}
use Rattle.expr_plan.specs.Shapes.{read_as}
use Rattle.expr_plan.specs.declared.fault.PlanFault.{PlanFault}
use Rattle.expr_plan.specs.declared.fault.PlanFault.TheVariants.{BadParam}
use Rattle.expr_plan.specs.declared.row.Function.{Function}
use Rattle.expr_plan.specs.declared.param.Param.{Param}
use Rattle.expr_plan.specs.declared.row.Helpers.{Helpers}
use Rattle.expr_plan.specs.declared.row.Helpers.TheVariants.{Nothing, Items, Condition, Group}
use Rattle.expr_plan.specs.declared.row.Helpers.TheVariants.{Metrics}
use Rattle.expr_plan.specs.declared.row.Shape.{Shape}

-- the fault of a parameter of a function
abbrev pub bad_param : Function → ByteList → PlanFault
bad_param f name = BadParam (name_of f) name

-- the fault, where the test says so
abbrev pub fault_if : Bool → PlanFault → List PlanFault
fault_if b fault = if b then fault ∷ [] else []

-- the first operand that isn't among the names
abbrev pub operand_after : Function → List ByteList → Option ByteList
operand_after f names = find (λ name. not (is_named name names)) (operands f)

-- the name under which an argument behind these names is kept; an input has none
abbrev pub name_at : Function → List ByteList → ArgTree → Option ByteList
name_at f names (plain text quoted) =
    if are_items (helpers_of f) then Some (helper_name f) else operand_after f names
name_at f names (named key text quoted) = Some key
name_at f names (named_call key c) = Some key
name_at f names (sub c) = if is_helper f c then Some (helper_name f) else None
name_at f names (renamed c to) = Some (helper_name f)

-- these names, and those of arguments behind them
abbrev pub names_after : Function → List ByteList → ArgTrees → List ByteList
names_after f names no_args = names
names_after f names (an_arg a args) =
    names_after f (names ++ cons_option (name_at f names a) []) args

-- a plain word is a fault where it is no item, or where there is no operand left
abbrev pub plain_faults : Function → List ByteList → ByteList → List PlanFault
plain_faults f names text =
    if are_items (helpers_of f)
    then fault_if (not (is_some (field_item text))) (bad_param f (helper_name f))
    else fault_if (not (is_some (operand_after f names))) (bad_param f (codes "operand"))

-- a value is a fault where it can't be read, or where it names a field that the function makes
abbrev pub value_faults : Function → List ByteList → ByteList → Result Param PlanFault
    → List PlanFault
value_faults f made key (Ok p) = fault_if (names_any made p) (bad_param f key)
value_faults f made key (Err fault) = fault ∷ []

-- a word under a key is a fault where the function has no such key, where the key stands before,
-- or where its value is one
abbrev pub word_faults : Function → List ByteList → List ByteList → ByteList → ByteList → Bool
    → Option Shape → List PlanFault
word_faults f made names key text quoted None = bad_param f key ∷ []
word_faults f made names key text quoted (Some shape) =
    fault_if (is_named key names) (bad_param f key)
    ++ value_faults f made key (read_as shape f key text quoted)

-- a call under a key is a fault in the same way, where the value of the key may be no call
abbrev pub call_faults : Function → List ByteList → ByteList → Option Shape → List PlanFault
call_faults f names key None = bad_param f key ∷ []
call_faults f names key (Some shape) =
    fault_if (is_named key names) (bad_param f key)
    ++ fault_if (not (may_be_call shape)) (bad_param f key)

-- whether a call can be read as one of these helpers
abbrev pub can_be_read : Helpers → CallTree → Bool
can_be_read Nothing c = true
can_be_read Items c = is_some (item_of_call c)
can_be_read Condition c = is_some (condition_of c)
can_be_read Group c = is_some (group_of_call c)
can_be_read Metrics c = is_some (metric_of_call c)

-- a helper is a fault where it is the second of which there may be one, or can't be read
abbrev pub helper_faults : Function → List ByteList → CallTree → List PlanFault
helper_faults f names c =
    fault_if (is_single (helpers_of f) && is_named (helper_name f) names)
    (bad_param f (codes "operand"))
    ++ fault_if (not (can_be_read (helpers_of f) c)) (bad_param f (helper_name f))

-- a call with a new name is a fault where it is no item
abbrev pub renamed_faults : Function → CallTree → ByteList → List PlanFault
renamed_faults f c to =
    if are_items (helpers_of f) && is_helper f c
    then fault_if (not (is_some (renamed_item c to))) (bad_param f (helper_name f))
    else bad_param f (codes "operand") ∷ []

-- the faults of an argument behind these names
abbrev pub faults_at : Function → List ByteList → List ByteList → ArgTree → List PlanFault
faults_at f made names (plain text quoted) = plain_faults f names text
faults_at f made names (named key text quoted) =
    word_faults f made names key text quoted (shape_of f key)
faults_at f made names (named_call key c) = call_faults f names key (shape_of f key)
faults_at f made names (sub c) = if is_helper f c then helper_faults f names c else []
faults_at f made names (renamed c to) = renamed_faults f c to

-- those of all arguments, from the left to the right
abbrev pub arg_faults : Function → List ByteList → List ByteList → ArgTrees → List PlanFault
arg_faults f made names no_args = []
arg_faults f made names (an_arg a args) =
    faults_at f made names a
    ++ arg_faults f made (names ++ cons_option (name_at f names a) []) args
