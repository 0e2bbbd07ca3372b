-- The calls among the arguments of a function that are no inputs (Solr Reference Guide, "Stream
-- Decorator Reference"; that their names count under their own function alone is own).
use Rattle.std.specs.Prelude.{Bool, true, false, not, ◌||◌, ◌&&◌, List, [], ◌∷◌, bytes_eq, codes}
use Rattle.std.specs.Prelude.{Option, Some, None}
use Rattle.std.specs.List.{list_any}
use Rattle.tuple_values.specs.Document.{ByteList, is_named}
use Rattle.expr_reader.specs.Tree.{CallTree, ArgTree, plain, named, named_call, sub, renamed}
use Rattle.expr_reader.specs.Tree.{ArgTrees}
use Rattle.expr_plan.specs.Functions.{helpers_of, helper_word, input_key}
use Rattle.expr_plan.specs.Given.{is_given}
use Rattle.expr_plan.specs.Items.{metric_names}
use Rattle.expr_plan.specs.Words.{called, arg_list}
use Rattle.expr_plan.specs.declared.row.Function.{Function}
use Rattle.expr_plan.specs.declared.param.Given.{Given}
use Rattle.expr_plan.specs.declared.param.Param.{Param}
use Rattle.expr_plan.specs.declared.param.Param.TheVariants as param
use Rattle.expr_plan.specs.declared.row.Helpers.{Helpers}
use Rattle.expr_plan.specs.declared.row.Helpers.TheVariants.{Nothing, Items, Condition, Group}
use Rattle.expr_plan.specs.declared.row.Helpers.TheVariants.{Metrics}
use Rattle.expr_plan.specs.declared.row.Place.{Place}
use Rattle.expr_plan.specs.declared.row.Place.TheVariants.{Alone, UnderKey}

-- whether a name is that of a metric
abbrev pub is_metric_word : ByteList → Bool
is_metric_word name =
    bytes_eq name (codes "sum") || bytes_eq name (codes "min") || bytes_eq name (codes "max")
    || bytes_eq name (codes "count")

-- whether a name is that of a condition
abbrev pub is_condition_word : ByteList → Bool
is_condition_word name =
    bytes_eq name (codes "eq") || bytes_eq name (codes "gt") || bytes_eq name (codes "lt")
    || bytes_eq name (codes "gteq") || bytes_eq name (codes "lteq") || bytes_eq name (codes "and")
    || bytes_eq name (codes "or") || bytes_eq name (codes "eor") || bytes_eq name (codes "not")

-- whether a name is that of one of these helpers
abbrev pub is_helper_word : Helpers → ByteList → Bool
is_helper_word Nothing name = false
is_helper_word Items name =
    is_metric_word name || bytes_eq name (codes "replace") || bytes_eq name (codes "concat")
is_helper_word Condition name = is_condition_word name
is_helper_word Group name = bytes_eq name (codes "group")
is_helper_word Metrics name = is_metric_word name

-- whether a call is a helper of the function
abbrev pub is_helper : Function → CallTree → Bool
is_helper f c = is_helper_word (helpers_of f) (called c)

-- whether a key is this one, if there is one
abbrev pub is_key : Option ByteList → ByteList → Bool
is_key None key = false
is_key (Some other) key = bytes_eq other key

-- whether an argument is an input of the function at such a place: a call by itself that is no
-- helper, or one under the function's key for an input
abbrev pub is_input : Place → Function → ArgTree → Bool
is_input place f (plain text quoted) = false
is_input place f (named key text quoted) = false
is_input Alone f (named_call key c) = false
is_input UnderKey f (named_call key c) = is_key (input_key f) key
is_input Alone f (sub c) = not (is_helper f c)
is_input UnderKey f (sub c) = false
is_input place f (renamed c to) = false

-- whether these helpers are items, which words and calls with a new name may be, too
abbrev pub are_items : Helpers → Bool
are_items Nothing = false
are_items Items = true
are_items Condition = false
are_items Group = false
are_items Metrics = false

-- whether there may be but one of these helpers
abbrev pub is_single : Helpers → Bool
is_single Nothing = false
is_single Items = false
is_single Condition = true
is_single Group = true
is_single Metrics = false

-- what a function's helper is told as
abbrev pub helper_name : Function → ByteList
helper_name f = helper_word (helpers_of f)

-- whether the function takes no helper besides those that are given
abbrev pub is_full : Function → List Given → Bool
is_full f given = is_single (helpers_of f) && is_given (helper_name f) given

-- the fields that are made of each key by what has these helpers
abbrev pub made_by : Helpers → ArgTrees → List ByteList
made_by Nothing args = []
made_by Items args = []
made_by Condition args = []
made_by Group args = codes "group" ∷ []
made_by Metrics args = metric_names (arg_list args)

-- the fields that a function of these arguments makes of each key
abbrev pub made_names : Function → ArgTrees → List ByteList
made_names f args = made_by (helpers_of f) args

-- whether a parameter names one of the fields
abbrev pub names_any : List ByteList → Param → Bool
names_any made (param.Names names) = list_any (λ name. is_named name names) made
names_any made _ = false
