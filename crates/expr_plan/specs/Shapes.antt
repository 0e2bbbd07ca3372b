-- What the value under a key is read as (own).
use Rattle.std.specs.Prelude.{ℕ, Bool, List, Option, Some, None, Result, Ok, Err, codes}
use Rattle.std.specs.Prelude.{if◌then◌else◌, length, bytes_eq}
use Rattle.tuple_values.specs.Document.{ByteList, is_named}
use Rattle.tuple_values.specs.Whole.{whole_of}
use Rattle.query_syntax.specs.Tree.{ClauseTree}
use Rattle.query_syntax.specs.Reading.{read_of}
use Rattle.sort_spec.specs.Reading.{Reading, said, stuck, sort_of, on_of, names_of}
use Rattle.sort_spec.specs.declared.pair.OnPair.{OnPair}
use Rattle.sort_spec.specs.declared.term.SortTerm.{SortTerm}
use Rattle.expr_plan.specs.Functions.{name_of}
use Rattle.expr_types.specs.Limits.{id_limit, is_between}
use Rattle.expr_plan.specs.Literals.{literal, within, flag_of}
use Rattle.expr_plan.specs.declared.fault.PlanFault.{PlanFault}
use Rattle.expr_plan.specs.declared.fault.PlanFault.TheVariants.{BadParam, BadSort, BadQuery}
use Rattle.expr_plan.specs.declared.row.Function.{Function}
use Rattle.expr_plan.specs.declared.row.Shape.{Shape}
use Rattle.expr_plan.specs.declared.row.Shape.TheVariants.{Literal, Anything, Names}
use Rattle.expr_plan.specs.declared.row.Shape.TheVariants.{FieldNames, Sort, Pairs, Query, Number}
use Rattle.expr_plan.specs.declared.row.Shape.TheVariants.{Input}
use Rattle.expr_plan.specs.declared.row.Shape.TheVariants.{KeptQuery, Small, Id, Flag, True}
use Rattle.expr_plan.specs.declared.param.Param.{Param}
use Rattle.expr_plan.specs.declared.param.Param.TheVariants as param

-- a fault of a parameter
abbrev pub bad : {X : Type 0} → Function → ByteList → Result X PlanFault
bad f name = Err (BadParam (name_of f) name)

-- a number as a parameter
abbrev pub number_param : Function → ByteList → Option ℕ → Result Param PlanFault
number_param f key None = bad f key
number_param f key (Some n) = Ok (param.Number n)

-- a number of 16 bits as a parameter
abbrev pub small_param : Function → ByteList → Option ℕ → Result Param PlanFault
small_param f key None = bad f key
small_param f key (Some n) = Ok (param.Small n)

-- a text as the name of a topic or of a daemon
abbrev pub id_param : Function → ByteList → ByteList → Result Param PlanFault
id_param f key text =
    if is_between 1 id_limit (length text) then Ok (param.Plain text) else bad f key

-- a flag as a parameter
abbrev pub flag_param : Function → ByteList → Option Bool → Result Param PlanFault
flag_param f key None = bad f key
flag_param f key (Some flag) = Ok (param.Flag flag)

-- `true` as a parameter, which changes nothing
abbrev pub true_param : Function → ByteList → ByteList → Result Param PlanFault
true_param f key text = if bytes_eq text (codes "true") then Ok param.Nothing else bad f key

-- names that were read as a parameter; a list that can't be read is a fault of its key
abbrev pub names_param : Function → ByteList → Reading (List ByteList) → Result Param PlanFault
names_param f key (stuck at) = bad f key
names_param f key (said names) = Ok (param.Names names)

-- the same of names of which none may be `*`
abbrev pub fields_param : Function → ByteList → Reading (List ByteList) → Result Param PlanFault
fields_param f key (stuck at) = bad f key
fields_param f key (said names) =
    if is_named (codes "*") names then bad f key else Ok (param.Names names)

-- a sort that was read as a parameter, or its fault
abbrev pub sort_param : Reading (List SortTerm) → Result Param PlanFault
sort_param (stuck at) = Err (BadSort at)
sort_param (said terms) = Ok (param.Sort terms)

-- pairs that were read as a parameter, or their fault
abbrev pub pairs_param : Reading (List OnPair) → Result Param PlanFault
pairs_param (stuck at) = Err (BadSort at)
pairs_param (said pairs) = Ok (param.Pairs pairs)

-- a query that was read as a parameter, or its fault
abbrev pub query_param : Result (List ClauseTree) ℕ → Result Param PlanFault
query_param (Err at) = Err (BadQuery at)
query_param (Ok clauses) = Ok (param.Query (record { clauses = clauses }))

-- the same of a query whose text is kept
abbrev pub kept_param : ByteList → Result (List ClauseTree) ℕ → Result Param PlanFault
kept_param text (Err at) = Err (BadQuery at)
kept_param text (Ok clauses) = Ok (param.KeptQuery (record { clauses = clauses }) text)

-- a word under a key as a parameter, or its fault; an input is a call and no word
abbrev pub read_as : Shape → Function → ByteList → ByteList → Bool → Result Param PlanFault
read_as Literal f key text quoted = Ok (param.Literal (literal text quoted))
read_as Anything f key text quoted = Ok param.Nothing
read_as Names f key text quoted = names_param f key (names_of text)
read_as FieldNames f key text quoted = fields_param f key (names_of text)
read_as Sort f key text quoted = sort_param (sort_of text)
read_as Pairs f key text quoted = pairs_param (on_of text)
read_as Query f key text quoted = query_param (read_of text)
read_as KeptQuery f key text quoted = kept_param text (read_of text)
read_as (Number low high) f key text quoted =
    number_param f key (within low high (whole_of text))
read_as (Small low high) f key text quoted =
    small_param f key (within low high (whole_of text))
read_as Id f key text quoted = id_param f key text
read_as Flag f key text quoted = flag_param f key (flag_of text)
read_as True f key text quoted = true_param f key text
read_as Input f key text quoted = bad f key
