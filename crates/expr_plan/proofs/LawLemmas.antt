-- The fault that is told is the first of all.
use Rattle.std.proofs.Common.{◌≡◌, List, [], ◌∷◌, ◌++◌, map, filter, Bool, true, false, not}
use Rattle.std.proofs.Common.{cond, Option, Some, None, Result, Ok, Err}
use Rattle.std.proofs.Common.{refl, ap, sym, ◌∙◌, subst}
use Rattle.tuple_values.specs.Document.{ByteList, is_named}
use Rattle.expr_reader.specs.Tree.{CallTree, call, ArgTree, plain, named, named_call, sub, renamed}
use Rattle.expr_reader.specs.Tree.{ArgTrees, no_args, an_arg}
use Rattle.expr_types.specs.ExprTree.{ExprTree, node, inputs_of}
use Rattle.expr_plan.specs.Given.{Walked, nothing_given}
use Rattle.expr_plan.specs.Arguments.{with_args}
use Rattle.expr_plan.specs.ArgumentFaults.{fault_if}
use Rattle.expr_plan.specs.ArgumentFaults.{names_after}
use Rattle.expr_plan.specs.ArgumentFaults.{arg_faults}
use Rattle.expr_plan.specs.Law.{missing_faults, own_faults, faults_by, faults_of, inputs_faults}
use Rattle.expr_plan.specs.Law.{input_faults, first_fault, TellsFirst, StandsIfFaultless, AreKnown}
use Rattle.expr_plan.specs.Fault.{and_then}
use Rattle.expr_plan.specs.Functions.{function_of, name_of, takes}
use Rattle.expr_plan.specs.Functions.{required, first_missing}
use Rattle.expr_plan.specs.Given.{first_absent}
use Rattle.expr_plan.specs.Helpers.{is_input}
use Rattle.expr_plan.specs.Helpers.{made_names}
use Rattle.expr_plan.specs.Walk.{planned, inputs_planned, input_planned, known, in_turn, if_input}
use Rattle.expr_plan.specs.Operators.{operator_of}
use Rattle.expr_plan.specs.Walk.{walked_of, complete, inputs_found}
use Rattle.expr_plan.specs.declared.fault.PlanFault.{PlanFault}
use Rattle.expr_plan.specs.declared.fault.PlanFault.TheVariants.{MissingParam, WrongInputs}
use Rattle.expr_plan.specs.declared.row.Function.{Function}
use Rattle.expr_plan.specs.declared.row.Function.TheVariants.{Search, Tuple, Select, Having}
use Rattle.expr_plan.specs.declared.row.Function.TheVariants.{Sort, Top, Unique, Merge}
use Rattle.expr_plan.specs.declared.row.Function.TheVariants.{Reduce, Rollup, InnerJoin}
use Rattle.expr_plan.specs.declared.row.Function.TheVariants.{LeftOuterJoin, Intersect}
use Rattle.expr_plan.specs.declared.row.Function.TheVariants.{Complement, HashJoin}
use Rattle.expr_plan.specs.declared.row.Function.TheVariants.{OuterHashJoin, Parallel, Topic}
use Rattle.expr_plan.specs.declared.row.Function.TheVariants.{Update, Commit, Daemon}
use Rattle.expr_plan.specs.declared.row.Place.{Place}
use Rattle.expr_plan.specs.declared.row.Place.TheVariants.{Alone, UnderKey}
use Rattle.expr_plan.proofs.ArgumentFaultLemmas.{told, told_then, names_in, given_named, Tells}
use Rattle.expr_plan.proofs.ArgumentFaultLemmas.{args_tell}

-- what is missing
missing_told : (f : Function) (w : Walked) (names : List ByteList)
    → told (complete f w (first_absent names w.given))
    ≡ first_fault (map (MissingParam (name_of f))
    (filter (λ name. not (is_named name (names_in w.given))) names))
missing_told f w [] = refl
missing_told f w (name ∷ names) =
    rw (given_named name w.given)
    (go (is_named name (names_in w.given)) (missing_told f w names))
  where
    go : (b : Bool)
        → told (complete f w (first_absent names w.given))
        ≡ first_fault (map (MissingParam (name_of f))
        (filter (λ name. not (is_named name (names_in w.given))) names))
        → told (complete f w (cond b (first_absent names w.given) (Some name)))
        ≡ first_fault (map (MissingParam (name_of f))
        (cond (not b)
        (name ∷ filter (λ name. not (is_named name (names_in w.given))) names)
        (filter (λ name. not (is_named name (names_in w.given))) names)))
    go true later = later
    go false later = refl

-- the faults of a call that aren't in its inputs
walked_told : (f : Function) (args : ArgTrees)
    → told (walked_of f args) ≡ first_fault (own_faults f args)
walked_told f args = go (takes f (inputs_found Alone f args))
  where
    made : List ByteList
    made = made_names f args

    all : Tells (with_args f made nothing_given args) (arg_faults f made [] args)
        (names_after f [] args)
    all = args_tell f made nothing_given args

    missing : (w : Walked) → with_args f made nothing_given args ≡ Ok w
        → told (complete f w (first_missing f w.given))
        ≡ first_fault (missing_faults f (names_after f [] args))
    missing w e =
        subst
        (λ (names : List ByteList).
        told (complete f w (first_missing f w.given)) ≡ first_fault (missing_faults f names))
        (all.1 w e) (missing_told f w (required f))

    go : (b : Bool)
        → told (cond b (and_then (with_args f made nothing_given args)
        (λ w. complete f w (first_missing f w.given)))
        (Err (WrongInputs (name_of f) (inputs_found Alone f args))))
        ≡ first_fault (fault_if (not b) (WrongInputs (name_of f) (inputs_found Alone f args))
        ++ (arg_faults f made [] args ++ missing_faults f (names_after f [] args)))
    go true =
        told_then (with_args f made nothing_given args)
        (λ w. complete f w (first_missing f w.given)) (arg_faults f made [] args)
        (missing_faults f (names_after f [] args)) all.0 missing
    go false = refl

-- nothing is told of what follows without a fault
told_done : {X Y : Type 0} (r : Result X PlanFault) (done : X → Y)
    → told (and_then r (λ x. Ok (done x))) ≡ told r
told_done (Ok x) done = refl
told_done (Err f) done = refl

-- all inputs of a function, those under a key behind the others
abbrev all_planned : Function → ArgTrees → Result (List ExprTree) PlanFault
all_planned f args = in_turn (inputs_planned Alone f args) (inputs_planned UnderKey f args)

-- and their faults
abbrev all_faults : Function → ArgTrees → List PlanFault
all_faults f args = inputs_faults Alone f args ++ inputs_faults UnderKey f args

-- what is told of some inputs and then others
turn_told : (inputs others : Result (List ExprTree) PlanFault) (faults more : List PlanFault)
    → told inputs ≡ first_fault faults → told others ≡ first_fault more
    → told (in_turn inputs others) ≡ first_fault (faults ++ more)
turn_told inputs others faults more here later =
    told_then inputs (λ first. and_then others (λ rest. Ok (first ++ rest))) faults more here
    (λ first e. told_done others (λ rest. first ++ rest) ∙ later)

-- a call of this function, if there is one
by_function : (name : ByteList) (o : Option Function) (args : ArgTrees)
    → ((f : Function) → told (all_planned f args) ≡ first_fault (all_faults f args))
    → told (and_then (known name o) (λ f. and_then (walked_of f args)
    (λ w. and_then (all_planned f args)
    (λ inputs. Ok (node (operator_of f w) (inputs_of inputs))))))
    ≡ first_fault (faults_by name o args (λ f. all_faults f args))
by_function name None args inputs = refl
by_function name (Some f) args inputs =
    told_then (walked_of f args)
    (λ w. and_then (all_planned f args)
    (λ inputs. Ok (node (operator_of f w) (inputs_of inputs))))
    (own_faults f args) (all_faults f args) (walked_told f args)
    (λ w e.
    told_done (all_planned f args) (λ inputs. node (operator_of f w) (inputs_of inputs))
    ∙ inputs f)

-- an argument that is a call
call_told : (c : CallTree) (b : Bool) → told (planned c) ≡ first_fault (faults_of c)
    → told (if_input b (planned c)) ≡ first_fault (cond b (faults_of c) [])
call_told c true e = told_done (planned c) (λ e. e ∷ []) ∙ e
call_told c false e = refl

mutual
  -- the fault that is told of a call is the first of all
  pub planned_told : (c : CallTree) → told (planned c) ≡ first_fault (faults_of c)
  planned_told (call name args) =
      by_function name (function_of name) args
      (λ f.
      turn_told (inputs_planned Alone f args) (inputs_planned UnderKey f args)
      (inputs_faults Alone f args) (inputs_faults UnderKey f args) (inputs_told Alone f args)
      (inputs_told UnderKey f args))

  inputs_told : (place : Place) (f : Function) (args : ArgTrees)
      → told (inputs_planned place f args) ≡ first_fault (inputs_faults place f args)
  inputs_told place f no_args = refl
  inputs_told place f (an_arg a args) =
      turn_told (input_planned place f a) (inputs_planned place f args) (input_faults place f a)
      (inputs_faults place f args) (input_told place f a) (inputs_told place f args)

  input_told : (place : Place) (f : Function) (a : ArgTree)
      → told (input_planned place f a) ≡ first_fault (input_faults place f a)
  input_told place f (plain text quoted) = refl
  input_told place f (named key text quoted) = refl
  input_told place f (named_call key c) =
      call_told c (is_input place f (named_call key c)) (planned_told c)
  input_told place f (sub c) = call_told c (is_input place f (sub c)) (planned_told c)
  input_told place f (renamed c to) = refl

-- a fault is told exactly where it is the first of all
told_err : {X : Type 0} (r : Result X PlanFault) (fault : PlanFault) → told r ≡ Some fault
    → r ≡ Err fault
told_err (Ok x) fault e = absurd (cc)
told_err (Err f) fault e = let same : f ≡ fault = cc in ap Err same

-- nothing is told only of what there is
told_ok : {X : Type 0} (r : Result X PlanFault) → told r ≡ None → (x : X) × (r ≡ Ok x)
told_ok (Ok x) e = (x, refl)
told_ok (Err f) e = absurd (cc)

-- there is no first fault only where there is none
pub first_none : (faults : List PlanFault) → first_fault faults ≡ None → faults ≡ []
first_none [] e = refl
first_none (fault ∷ faults) e = absurd (cc)

-- the fault that is told
pub tells_first : TellsFirst
tells_first c fault = (
  λ e. sym (planned_told c) ∙ ap told e,
  λ e. told_err (planned c) fault (planned_told c ∙ e),
)

-- a call without a fault
pub stands_if_faultless : StandsIfFaultless
stands_if_faultless c = (
  λ found. first_none (faults_of c) (sym (planned_told c) ∙ ap told found.1),
  λ none. told_ok (planned c) (planned_told c ∙ ap first_fault none),
)

-- each function is known by its name
pub are_known : AreKnown
are_known Search = refl
are_known Tuple = refl
are_known Select = refl
are_known Having = refl
are_known Sort = refl
are_known Top = refl
are_known Unique = refl
are_known Merge = refl
are_known Reduce = refl
are_known Rollup = refl
are_known InnerJoin = refl
are_known LeftOuterJoin = refl
are_known Intersect = refl
are_known Complement = refl
are_known HashJoin = refl
are_known OuterHashJoin = refl
are_known Parallel = refl
are_known Topic = refl
are_known Update = refl
are_known Commit = refl
are_known Daemon = refl
