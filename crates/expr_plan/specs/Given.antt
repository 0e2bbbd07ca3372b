-- What the arguments of a call give, by name (own).
use Rattle.std.specs.Prelude.{ℕ, Bool, false, ◌||◌, List, [], ◌∷◌, Option, Some, None, bytes_eq}
use Rattle.std.specs.Prelude.{codes, if◌then◌else◌}
use Rattle.std.specs.List.{filter_map}
use Rattle.tuple_values.specs.Document.{ByteList}
use Rattle.query_syntax.specs.Tree.{ClauseTree}
use Rattle.sort_spec.specs.declared.pair.OnPair.{OnPair}
use Rattle.sort_spec.specs.declared.term.SortTerm.{SortTerm}
use Rattle.expr_plan.specs.declared.param.Given.{Given}
use Rattle.expr_plan.specs.declared.param.Param.{Param}
use Rattle.expr_plan.specs.declared.param.Param.TheVariants as param
use Rattle.expr_types.specs.ConditionTree.{ConditionTree}
use Rattle.expr_types.specs.declared.item.GroupOp.{GroupOp}
use Rattle.expr_types.specs.declared.item.Item.{Item}
use Rattle.expr_types.specs.declared.item.Metric.{Metric}

-- what arguments have given: parameters, and a condition where there was one
pub record Walked : Type 0 where
  pub given : List Given
  pub condition : Option ConditionTree

-- nothing yet
abbrev pub nothing_given : Walked
nothing_given = record { given = []; condition = None }

-- whether there is a parameter of the name
abbrev pub is_given : ByteList → List Given → Bool
is_given name [] = false
is_given name (g ∷ given) = bytes_eq g.name name || is_given name given

-- the first parameter of the name; nothing where there is none
abbrev pub param_at : ByteList → List Given → Param
param_at name [] = param.Nothing
param_at name (g ∷ given) = if bytes_eq g.name name then g.param else param_at name given

-- the parameters, with nothing in place of the first of the name
abbrev pub taken : ByteList → List Given → List Given
taken name [] = []
taken name (g ∷ given) =
    if bytes_eq g.name name then record g { param = param.Nothing } ∷ given
    else g ∷ taken name given

-- the first name of a list that isn't given
abbrev pub first_absent : List ByteList → List Given → Option ByteList
first_absent [] given = None
first_absent (name ∷ names) given =
    if is_given name given then first_absent names given else Some name

-- a parameter as a text
abbrev pub text_in : Param → ByteList
text_in (param.Plain text) = text
text_in _ = []

-- a parameter as a list of names, if it is one
abbrev pub names_maybe : Param → Option (List ByteList)
names_maybe (param.Names names) = Some names
names_maybe _ = None

-- a parameter as a list of names
abbrev pub names_in : Param → List ByteList
names_in (param.Names names) = names
names_in _ = []

-- a parameter as a sort
abbrev pub sort_in : Param → List SortTerm
sort_in (param.Sort terms) = terms
sort_in _ = []

-- a parameter as pairs
abbrev pub pairs_in : Param → List OnPair
pairs_in (param.Pairs pairs) = pairs
pairs_in _ = []

-- a parameter as a query
abbrev pub query_in : Param → List ClauseTree
query_in (param.Query query) = query.clauses
query_in _ = []

-- a parameter as a query with its text
abbrev pub kept_query_in : Param → List ClauseTree
kept_query_in (param.KeptQuery query text) = query.clauses
kept_query_in _ = []

-- the text of such a query
abbrev pub kept_text_in : Param → ByteList
kept_text_in (param.KeptQuery query text) = text
kept_text_in _ = []

-- a parameter as a number, if it is one
abbrev pub number_in : Param → Option ℕ
number_in (param.Number n) = Some n
number_in _ = None

-- a parameter as a number, or another one
abbrev pub count_or : ℕ → Param → ℕ
count_or other (param.Number n) = n
count_or other _ = other

-- a parameter as a number of 16 bits
abbrev pub small_in : Param → ℕ
small_in (param.Small n) = n
small_in _ = 0

-- what a parameter says as a flag
abbrev pub flag_in : Param → Bool
flag_in (param.Flag flag) = flag
flag_in _ = false

-- a parameter as a group
abbrev pub group_in : Param → GroupOp
group_in (param.Group op) = op
group_in _ = record { sort = []; n = 0 }

-- a parameter as an item, if it is one
abbrev pub item_in : Param → Option Item
item_in (param.Item item) = Some item
item_in _ = None

-- the items among parameters, in order
abbrev pub items_in : List Given → List Item
items_in given = filter_map (λ g. item_in g.param) given

-- a parameter as a metric, if it is one
abbrev pub metric_of_param : Param → Option Metric
metric_of_param (param.Metric metric) = Some metric
metric_of_param _ = None

-- the metric that was given, if it was one
abbrev pub metric_in : Given → Option Metric
metric_in g = if bytes_eq g.name (codes "metric") then metric_of_param g.param else None

-- the metrics among parameters, in order
abbrev pub metrics_in : List Given → List Metric
metrics_in given = filter_map metric_in given
