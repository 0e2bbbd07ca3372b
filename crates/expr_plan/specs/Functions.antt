-- What is read off the row of a function (own).
use Rattle.std.specs.Prelude.{ℕ, ◌+◌, Bool, true, false, ◌==◌, nat_le, List, [], ◌∷◌, ◌++◌, map}
use Rattle.std.specs.Prelude.{Option, Some, None, bytes_eq, codes, if◌then◌else◌}
use Rattle.std.specs.List.{find}
use Rattle.std.specs.Option.{option_or}
use Rattle.tuple_values.specs.Document.{ByteList}
use Rattle.expr_plan.specs.Given.{first_absent}
use Rattle.expr_plan.specs.Table.{KeyShape, row_of, functions}
use Rattle.expr_plan.specs.declared.row.Function.{Function}
use Rattle.expr_plan.specs.declared.param.Given.{Given}
use Rattle.expr_plan.specs.declared.row.Helpers.{Helpers}
use Rattle.expr_plan.specs.declared.row.Helpers.TheVariants.{Nothing, Items, Condition, Group}
use Rattle.expr_plan.specs.declared.row.Helpers.TheVariants.{Metrics}
use Rattle.expr_plan.specs.declared.row.Inputs.{Inputs}
use Rattle.expr_plan.specs.declared.row.Inputs.TheVariants.{Exactly, AtLeast}
use Rattle.expr_plan.specs.declared.row.Shape.{Shape}
use Rattle.expr_plan.specs.declared.row.Shape.TheVariants as shape

-- the name of a function
abbrev pub name_of : Function → ByteList
name_of f = (row_of f).name

-- the function of a name
abbrev pub function_of : ByteList → Option Function
function_of name = find (λ f. bytes_eq (name_of f) name) functions

-- the calls among its arguments that are no inputs
abbrev pub helpers_of : Function → Helpers
helpers_of f = (row_of f).helpers

-- whether there are as many inputs
abbrev pub is_number : Inputs → ℕ → Bool
is_number (Exactly n) inputs = inputs == n
is_number (AtLeast n) inputs = nat_le n inputs

-- whether it takes as many inputs
abbrev pub takes : Function → ℕ → Bool
takes f inputs = is_number (row_of f).inputs inputs

-- what the value under a key of these is to be
abbrev pub shape_in : ByteList → List KeyShape → Option Shape
shape_in key [] = None
shape_in key (k ∷ keys) = if bytes_eq k.0 key then Some k.1 else shape_in key keys

-- what the value under a key is to be; none where there is no such key
abbrev pub shape_of : Function → ByteList → Option Shape
shape_of f key =
    option_or (shape_in key (row_of f).mandatory)
    (option_or (shape_in key (row_of f).optional) (row_of f).others)

-- whether what has this shape is an input
abbrev pub is_input_shape : Shape → Bool
is_input_shape shape.Literal = false
is_input_shape shape.Anything = false
is_input_shape shape.Names = false
is_input_shape shape.FieldNames = false
is_input_shape shape.Sort = false
is_input_shape shape.Pairs = false
is_input_shape shape.Query = false
is_input_shape shape.KeptQuery = false
is_input_shape (shape.Number low high) = false
is_input_shape (shape.Small low high) = false
is_input_shape shape.Id = false
is_input_shape shape.Flag = false
is_input_shape shape.True = false
is_input_shape shape.Input = true

-- the first key of these under which a call is an input, if there is one
abbrev pub input_key_in : List KeyShape → Option ByteList
input_key_in [] = None
input_key_in (k ∷ keys) = if is_input_shape k.1 then Some k.0 else input_key_in keys

-- the key of a function under which a call is an input, if it has one
abbrev pub input_key : Function → Option ByteList
input_key f = input_key_in (row_of f).mandatory

-- as many inputs, and one more where there is such a key
abbrev pub with_keyed : Inputs → Option ByteList → Inputs
with_keyed inputs None = inputs
with_keyed (Exactly n) (Some key) = Exactly (n + 1)
with_keyed (AtLeast n) (Some key) = AtLeast (n + 1)

-- whether it takes as many inputs, with the one under a key
abbrev pub takes_all : Function → ℕ → Bool
takes_all f inputs = is_number (with_keyed (row_of f).inputs (input_key f)) inputs

-- the names of operands, in order
abbrev pub operands : Function → List ByteList
operands f = (row_of f).operands

-- what helpers are told as
abbrev pub helper_word : Helpers → ByteList
helper_word Nothing = []
helper_word Items = codes "item"
helper_word Condition = codes "condition"
helper_word Group = codes "group"
helper_word Metrics = codes "metric"

-- the helpers that have to be given
abbrev pub helper_words : Helpers → List ByteList
helper_words Nothing = []
helper_words Items = codes "item" ∷ []
helper_words Condition = codes "condition" ∷ []
helper_words Group = codes "group" ∷ []
helper_words Metrics = codes "metric" ∷ []

-- what has to be given: operands and helpers, and then keys
abbrev pub required : Function → List ByteList
required f =
    operands f ++ (helper_words (helpers_of f) ++ map (λ k. k.0) (row_of f).mandatory)

-- the operand that a plain argument is, behind the parameters that are given
abbrev pub next_operand : Function → List Given → Option ByteList
next_operand f given = first_absent (operands f) given

-- the first parameter that has to be given and isn't
abbrev pub first_missing : Function → List Given → Option ByteList
first_missing f given = first_absent (required f) given
