-- What the inputs of a call stand for, one argument at a time.
use Rattle.std.proofs.Common.{◌≡◌, ℕ, ◌+◌, ◌<◌, ◌≤◌, List, [], ◌∷◌, ◌++◌, length, get_or, drop}
use Rattle.std.proofs.Common.{Option, Some, None, option_map, Result, Ok, Err, map, append_assoc}
use Rattle.std.proofs.Common.{append-nil, refl, ap, sym, ◌∙◌, subst}
use Rattle.std.specs.List.{cons_option}
use Rattle.std.proofs.lemmas.List.{at_drop_more, at_drop_all, map-append}
use Rattle.expr_reader.specs.Tree.{ArgTree, trees_of}
use Rattle.expr_types.specs.ExprTree.{ExprTree}
use Rattle.expr_types.specs.ExprTree.{expr_tree}
use Rattle.expr_plan.specs.Fault.{and_then, IsFaultOf}
use Rattle.expr_plan.specs.Walk.{inputs_planned, input_planned}
use Rattle.expr_types.specs.declared.expr.Expr.{Expr}
use Rattle.expr_plan.specs.declared.fault.PlanFault.{PlanFault}
use Rattle.expr_plan.specs.declared.row.Function.{Function}
use Rattle.expr_plan.specs.declared.row.Place.{Place}
use Rattle.expr_plan.proofs.WalkLemmas.{first_faulty}

-- inputs, and then those that were planned, unless there is a fault
abbrev pub behind : List ExprTree → Result (List ExprTree) PlanFault
    → Result (List ExprTree) PlanFault
behind inputs more = and_then more (λ rest. Ok (inputs ++ rest))

-- the inputs from a place on are that of the argument there and those of the rest
inputs_planned-drop : (place : Place) (f : Function) (args : List ArgTree) (k : ℕ) (a : ArgTree) → k < length args
    → a ≡ get_or args k a
    → inputs_planned place f (trees_of (drop k args))
    ≡ and_then (input_planned place f a)
    (λ first. behind first (inputs_planned place f (trees_of (drop (k + 1) args))))
inputs_planned-drop place f args k a lt is =
    at_drop_more (λ rest. inputs_planned place f (trees_of rest)) args k a lt
    ∙ ap (λ x. and_then (input_planned place f x)
    (λ first. behind first (inputs_planned place f (trees_of (drop (k + 1) args))))) (sym is)

-- behind some inputs and then others is behind both
behind-behind : (inputs first : List ExprTree) (more : Result (List ExprTree) PlanFault)
    → behind inputs (behind first more) ≡ behind (inputs ++ first) more
behind-behind inputs first (Ok rest) = ap Ok (sym (append_assoc inputs first rest))
behind-behind inputs first (Err f) = refl

-- the trees of inputs and of one more that there may be
pub exprs-push : (inputs : List Expr) (e : Option Expr)
    → map expr_tree (inputs ++ cons_option e [])
    ≡ map expr_tree inputs ++ cons_option (option_map expr_tree e) []
exprs-push inputs None = map-append expr_tree inputs []
exprs-push inputs (Some e) = map-append expr_tree inputs (e ∷ [])

-- after an argument that is planned, the rest is left to do
pub input_read : (place : Place) (f : Function) (args : List ArgTree) (k : ℕ) (a : ArgTree)
    (inputs first : List ExprTree) → k < length args → a ≡ get_or args k a
    → input_planned place f a ≡ Ok first
    → inputs_planned place f (trees_of args)
    ≡ behind inputs (inputs_planned place f (trees_of (drop k args)))
    → inputs_planned place f (trees_of args)
    ≡ behind (inputs ++ first) (inputs_planned place f (trees_of (drop (k + 1) args)))
input_read place f args k a inputs first lt is read all =
    let more = inputs_planned place f (trees_of (drop (k + 1) args)) in
    all
    ∙ ap (behind inputs) (inputs_planned-drop place f args k a lt is
    ∙ ap (λ x. and_then x (λ first. behind first more)) read)
    ∙ behind-behind inputs first more

-- a fault of an argument is the fault of all
pub input_refused : (place : Place) (f : Function) (args : List ArgTree) (k : ℕ) (a : ArgTree)
    (inputs : List ExprTree) (told : PlanFault) → k < length args → a ≡ get_or args k a
    → IsFaultOf (input_planned place f a) told
    → inputs_planned place f (trees_of args)
    ≡ behind inputs (inputs_planned place f (trees_of (drop k args)))
    → IsFaultOf (inputs_planned place f (trees_of args)) told
input_refused place f args k a inputs told lt is refused all =
    let more = inputs_planned place f (trees_of (drop (k + 1) args)) in
    let rest = inputs_planned place f (trees_of (drop k args)) in
    let here : IsFaultOf rest told =
    subst (λ x. IsFaultOf x told) (sym (inputs_planned-drop place f args k a lt is))
    (first_faulty (input_planned place f a) (λ first. behind first more) told refused) in
    subst (λ x. IsFaultOf x told) (sym all)
    (first_faulty rest (λ rest. Ok (inputs ++ rest)) told here)

-- behind the last argument they are all
pub inputs_read : (place : Place) (f : Function) (args : List ArgTree) (k : ℕ) (inputs : List ExprTree)
    → length args ≤ k
    → inputs_planned place f (trees_of args)
    ≡ behind inputs (inputs_planned place f (trees_of (drop k args)))
    → inputs_planned place f (trees_of args) ≡ Ok inputs
inputs_read place f args k inputs le all =
    all
    ∙ ap (behind inputs) (at_drop_all (λ rest. inputs_planned place f (trees_of rest)) args k le)
    ∙ ap Ok (append-nil inputs)
