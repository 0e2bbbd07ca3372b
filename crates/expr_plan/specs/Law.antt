-- All faults of a call, in the order of the walk, and which of them is told (own).
use Rattle.std.specs.Prelude.{◌≡◌, ◌↔◌, not, List, [], ◌∷◌, ◌++◌, map, filter, Option, Some, None}
use Rattle.std.specs.Prelude.{Ok, Err, if◌then◌else◌}
use Rattle.tuple_values.specs.Document.{ByteList, is_named}
use Rattle.expr_reader.specs.Tree.{CallTree, call, ArgTree, plain, named, named_call, sub, renamed}
use Rattle.expr_reader.specs.Tree.{ArgTrees, no_args, an_arg}
use Rattle.expr_types.specs.ExprTree.{ExprTree}
use Rattle.expr_plan.specs.ArgumentFaults.{fault_if, names_after, arg_faults}
use Rattle.expr_plan.specs.Functions.{function_of, name_of, takes, required}
use Rattle.expr_plan.specs.Helpers.{is_input, made_names}
use Rattle.expr_plan.specs.Walk.{planned, inputs_found}
use Rattle.expr_plan.specs.declared.fault.PlanFault.{PlanFault}
use Rattle.expr_plan.specs.declared.fault.PlanFault.TheVariants.{UnknownFunction, MissingParam}
use Rattle.expr_plan.specs.declared.fault.PlanFault.TheVariants.{WrongInputs}
use Rattle.expr_plan.specs.declared.row.Function.{Function}
use Rattle.expr_plan.specs.declared.row.Place.{Place}
use Rattle.expr_plan.specs.declared.row.Place.TheVariants.{Alone, UnderKey}

-- what is missing behind these names
abbrev pub missing_faults : Function → List ByteList → List PlanFault
missing_faults f names =
    map (MissingParam (name_of f)) (filter (λ name. not (is_named name names)) (required f))

-- the faults of a call of a function that aren't in its inputs: another number of inputs, then
-- those of the arguments, and then what is missing
abbrev pub own_faults : Function → ArgTrees → List PlanFault
own_faults f args =
    fault_if (not (takes f (inputs_found Alone f args)))
    (WrongInputs (name_of f) (inputs_found Alone f args))
    ++ (arg_faults f (made_names f args) [] args ++ missing_faults f (names_after f [] args))

-- the faults of a call of this name: it is unknown, or its own faults, and then those of its inputs
abbrev pub faults_by : ByteList → Option Function → ArgTrees → (Function → List PlanFault)
    → List PlanFault
faults_by name None args inputs = UnknownFunction name ∷ []
faults_by name (Some f) args inputs = own_faults f args ++ inputs f

abbrev mutual
  -- the faults of a call; those of an input under a key are behind those of all others
  pub faults_of : CallTree → List PlanFault
  faults_of (call name args) =
      faults_by name (function_of name) args
      (λ f. inputs_faults Alone f args ++ inputs_faults UnderKey f args)

  -- those of the inputs at such a place, from the left to the right
  pub inputs_faults : Place → Function → ArgTrees → List PlanFault
  inputs_faults place f no_args = []
  inputs_faults place f (an_arg a args) =
      input_faults place f a ++ inputs_faults place f args

  -- those of an argument that may be an input
  pub input_faults : Place → Function → ArgTree → List PlanFault
  input_faults place f (plain text quoted) = []
  input_faults place f (named key text quoted) = []
  input_faults place f (named_call key c) =
      if is_input place f (named_call key c) then faults_of c else []
  input_faults place f (sub c) = if is_input place f (sub c) then faults_of c else []
  input_faults place f (renamed c to) = []

-- the first of some faults
abbrev pub first_fault : List PlanFault → Option PlanFault
first_fault [] = None
first_fault (fault ∷ faults) = Some fault

-- a fault is told exactly where it is the first of all faults of the call
abbrev pub TellsFirst : Type 0
TellsFirst =
    (c : CallTree) (fault : PlanFault)
    → (planned c ≡ Err fault) ↔ (first_fault (faults_of c) ≡ Some fault)

-- a call stands for an expression exactly where it has no fault
abbrev pub StandsIfFaultless : Type 0
StandsIfFaultless = (c : CallTree) → ((t : ExprTree) × (planned c ≡ Ok t)) ↔ (faults_of c ≡ [])

-- each function is known by its name
abbrev pub AreKnown : Type 0
AreKnown = (f : Function) → function_of (name_of f) ≡ Some f
