-- The parameters of a call's arguments, one argument at a time.
use Rattle.std.proofs.Common.{◌≡◌, ℕ, ◌+◌, ◌<◌, ◌≤◌, List, length, get_or, drop, Result}
use Rattle.std.proofs.Common.{Ok, true, false, cond, refl, ap, sym, ◌∙◌, subst, arith}
use Rattle.std.proofs.lemmas.List.{at_drop_more, at_drop_all}
use Rattle.expr_reader.specs.Tree.{ArgTree, trees_of}
use Rattle.tuple_values.specs.Document.{ByteList}
use Rattle.expr_plan.specs.Given.{Walked}
use Rattle.expr_plan.specs.Arguments.{with_arg, with_args}
use Rattle.expr_plan.specs.Fault.{and_then, IsFaultOf}
use Rattle.expr_plan.specs.Helpers.{is_input}
use Rattle.expr_plan.specs.Walk.{inputs_found}
use Rattle.expr_plan.specs.declared.fault.PlanFault.{PlanFault}
use Rattle.expr_plan.specs.declared.fault.PlanFault.TheVariants as fault
use Rattle.expr_plan.specs.declared.row.Function.{Function}
use Rattle.expr_plan.specs.declared.row.Place.{Place}

-- a fault of a first part is the fault of both
pub first_faulty : {X Y : Type 0} (wanted : Result X PlanFault) (next : X → Result Y PlanFault)
    (f : PlanFault) → IsFaultOf wanted f → IsFaultOf (and_then wanted next) f
first_faulty wanted next (fault.UnknownFunction name) e = rw e refl
first_faulty wanted next (fault.MissingParam function name) e = rw e refl
first_faulty wanted next (fault.BadParam function name) e = rw e refl
first_faulty wanted next (fault.WrongInputs function found) e = rw e refl
first_faulty wanted next (fault.BadSort at) e = rw e refl
first_faulty wanted next (fault.BadQuery at) e = rw e refl
first_faulty wanted next fault.OutOfMemory e = tt

-- the parameters of the arguments from a place on are those of the one there and of the rest
with_args-drop : (f : Function) (made : List ByteList) (given : Walked)
    (args : List ArgTree) (k : ℕ) (a : ArgTree)
    → k < length args → a ≡ get_or args k a
    → with_args f made given (trees_of (drop k args))
    ≡ and_then (with_arg f made given a)
    (λ more. with_args f made more (trees_of (drop (k + 1) args)))
with_args-drop f made given args k a lt is =
    at_drop_more (λ rest. with_args f made given (trees_of rest)) args k a lt
    ∙ ap
    (λ x.
    and_then (with_arg f made given x)
    (λ more. with_args f made more (trees_of (drop (k + 1) args))))
    (sym is)

-- after an argument that is read, the rest is left to do
pub arg_read : (f : Function) (made : List ByteList) (given more : Walked)
    (args : List ArgTree) (k : ℕ) (a : ArgTree)
    → k < length args → a ≡ get_or args k a → with_arg f made given a ≡ Ok more
    → with_args f made given (trees_of (drop k args))
    ≡ with_args f made more (trees_of (drop (k + 1) args))
arg_read f made given more args k a lt is read =
    with_args-drop f made given args k a lt is ∙ rw read refl

-- a fault of an argument is the fault of all
pub arg_refused : (f : Function) (made : List ByteList) (given : Walked)
    (args : List ArgTree) (k : ℕ) (a : ArgTree)
    (told : PlanFault) → k < length args → a ≡ get_or args k a
    → IsFaultOf (with_arg f made given a) told
    → IsFaultOf (with_args f made given (trees_of (drop k args))) told
arg_refused f made given args k a told lt is refused =
    subst (λ w. IsFaultOf w told) (sym (with_args-drop f made given args k a lt is))
    (first_faulty (with_arg f made given a)
    (λ more. with_args f made more (trees_of (drop (k + 1) args))) told
    refused)

-- without further arguments the parameters are all
pub args_read : (f : Function) (made : List ByteList) (given : Walked)
    (args : List ArgTree) (k : ℕ)
    → length args ≤ k → with_args f made given (trees_of (drop k args)) ≡ Ok given
args_read f made given args k le =
    at_drop_all (λ rest. with_args f made given (trees_of rest)) args k le

-- the inputs from a place on are that of the argument there and those of the rest
pub inputs_found-drop : (place : Place) (f : Function) (args : List ArgTree) (k : ℕ) (a : ArgTree) → k < length args
    → a ≡ get_or args k a
    → inputs_found place f (trees_of (drop k args))
    ≡ cond (is_input place f a) 1 0 + inputs_found place f (trees_of (drop (k + 1) args))
inputs_found-drop place f args k a lt is =
    at_drop_more (λ rest. inputs_found place f (trees_of rest)) args k a lt
    ∙ ap (λ x. cond (is_input place f x) 1 0 + inputs_found place f (trees_of (drop (k + 1) args))) (sym is)

-- no argument from a place past the last is an input
pub no_inputs : (place : Place) (f : Function) (args : List ArgTree) (k : ℕ) → length args ≤ k
    → inputs_found place f (trees_of (drop k args)) ≡ 0
no_inputs place f args k le = at_drop_all (λ rest. inputs_found place f (trees_of rest)) args k le

-- with an input at a place there is one more from there on, and else as many
pub found_more : (place : Place) (f : Function) (args : List ArgTree) (k : ℕ) (a : ArgTree) → k < length args
    → a ≡ get_or args k a
    → (is_input place f a ≡ true → inputs_found place f (trees_of (drop k args))
    ≡ 1 + inputs_found place f (trees_of (drop (k + 1) args)))
    × (is_input place f a ≡ false → inputs_found place f (trees_of (drop k args))
    ≡ inputs_found place f (trees_of (drop (k + 1) args)))
found_more place f args k a lt is = (
  λ e. inputs_found-drop place f args k a lt is ∙ rw e refl,
  λ e. inputs_found-drop place f args k a lt is ∙ rw e (omega arith),
)
