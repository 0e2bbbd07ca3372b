-- What a call stands for, or its first fault: an unknown name, another number of inputs, the
-- arguments from the left to the right, what is missing, and then the faults of the inputs (own).
use Rattle.std.specs.Prelude.{ℕ, ◌+◌, Bool, List, [], ◌∷◌, ◌++◌, Option, Some, None}
use Rattle.std.specs.Prelude.{Result, Ok, Err, if◌then◌else◌}
use Rattle.tuple_values.specs.Document.{ByteList}
use Rattle.expr_reader.specs.Tree.{CallTree, call, ArgTree, plain, named, named_call, sub, renamed}
use Rattle.expr_reader.specs.Tree.{ArgTrees, no_args, an_arg}
use Rattle.expr_plan.specs.Given.{Walked, nothing_given}
use Rattle.expr_plan.specs.Arguments.{with_args}
use Rattle.expr_types.specs.ExprTree.{ExprTree, node, inputs_of}
use Rattle.expr_plan.specs.Fault.{and_then}
use Rattle.expr_plan.specs.Functions.{function_of, name_of, takes, first_missing}
use Rattle.expr_plan.specs.Helpers.{is_input, made_names}
use Rattle.expr_plan.specs.Operators.{operator_of}
use Rattle.expr_plan.specs.declared.fault.PlanFault.{PlanFault}
use Rattle.expr_plan.specs.declared.fault.PlanFault.TheVariants.{UnknownFunction, MissingParam}
use Rattle.expr_plan.specs.declared.fault.PlanFault.TheVariants.{WrongInputs}
use Rattle.expr_plan.specs.declared.row.Function.{Function}
use Rattle.expr_plan.specs.declared.row.Place.{Place}
use Rattle.expr_plan.specs.declared.row.Place.TheVariants.{Alone, UnderKey}

-- how many inputs there are at such a place
abbrev pub inputs_found : Place → Function → ArgTrees → ℕ
inputs_found place f no_args = 0
inputs_found place f (an_arg a args) =
    (if is_input place f a then 1 else 0) + inputs_found place f args

-- the function of a name, which may be unknown
abbrev pub known : ByteList → Option Function → Result Function PlanFault
known name None = Err (UnknownFunction name)
known name (Some f) = Ok f

-- the parameters, unless one is missing
abbrev pub complete : Function → Walked → Option ByteList → Result Walked PlanFault
complete f w None = Ok w
complete f w (Some name) = Err (MissingParam (name_of f) name)

-- what the arguments of a function give, or the first fault that isn't in an input
abbrev pub walked_of : Function → ArgTrees → Result Walked PlanFault
walked_of f args =
    if takes f (inputs_found Alone f args)
    then and_then (with_args f (made_names f args) nothing_given args)
    (λ w. complete f w (first_missing f w.given))
    else Err (WrongInputs (name_of f) (inputs_found Alone f args))

-- some inputs and then others; the first fault ends
abbrev pub in_turn : Result (List ExprTree) PlanFault → Result (List ExprTree) PlanFault
    → Result (List ExprTree) PlanFault
in_turn inputs others = and_then inputs (λ first. and_then others (λ rest. Ok (first ++ rest)))

-- what is planned, where it is an input
abbrev pub if_input : Bool → Result ExprTree PlanFault → Result (List ExprTree) PlanFault
if_input b wanted = if b then and_then wanted (λ e. Ok (e ∷ [])) else Ok []

abbrev mutual
  -- what a call stands for, or its first fault; an input under a key is behind all others
  pub planned : CallTree → Result ExprTree PlanFault
  planned (call name args) =
      and_then (known name (function_of name)) (λ f. and_then (walked_of f args)
      (λ w. and_then (in_turn (inputs_planned Alone f args) (inputs_planned UnderKey f args))
      (λ inputs. Ok (node (operator_of f w) (inputs_of inputs)))))

  -- what the inputs of a function at such a place stand for, or the first fault of the first that
  -- has one
  pub inputs_planned : Place → Function → ArgTrees → Result (List ExprTree) PlanFault
  inputs_planned place f no_args = Ok []
  inputs_planned place f (an_arg a args) =
      in_turn (input_planned place f a) (inputs_planned place f args)

  -- what an argument stands for that may be an input
  pub input_planned : Place → Function → ArgTree → Result (List ExprTree) PlanFault
  input_planned place f (plain text quoted) = Ok []
  input_planned place f (named key text quoted) = Ok []
  input_planned place f (named_call key c) =
      if_input (is_input place f (named_call key c)) (planned c)
  input_planned place f (sub c) = if_input (is_input place f (sub c)) (planned c)
  input_planned place f (renamed c to) = Ok []
