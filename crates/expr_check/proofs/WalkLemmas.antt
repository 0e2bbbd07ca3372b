-- Orders, fields and first faults, one input after another.
use Rattle.std.proofs.Common.{◌≡◌, ℕ, ◌+◌, ◌<◌, List, [], ◌∷◌, ◌++◌, length, get_or, drop, Bool}
use Rattle.std.proofs.Common.{true, Option, Some, None, refl, ap, sym, ◌∙◌, append_assoc}
use Rattle.std.specs.Prelude.{is_none}
use Rattle.std.specs.Option.{option_or}
use Rattle.std.proofs.lemmas.List.{at_drop_more}
use Rattle.tuple_values.specs.Document.{ByteList}
use Rattle.expr_types.specs.ExprTree.{ExprTree, ExprTrees, an_expr, inputs_of, inputs_in}
use Rattle.expr_types.specs.ExprTree.{operator_in}
use Rattle.expr_types.proofs.TreeLemmas.{node-parts}
use Rattle.expr_types.specs.Names.{function_name}
use Rattle.expr_check.specs.Rules.{order_given, fields_given, keys_given, place_in}
use Rattle.expr_check.specs.Walk.{order_of, orders_of, fields_of, all_fields}
use Rattle.expr_check.specs.Walk.{keys_of, all_keys, keyless_of, keyless_in, unkeyed}
use Rattle.expr_check.specs.Walk.{fault_at, fault_where, faults_where}
use Rattle.expr_check.specs.declared.fault.CheckFault.{CheckFault}
use Rattle.expr_check.specs.declared.roots.Place.{Place}
use Rattle.expr_check.specs.declared.roots.Roots.{Roots}

-- the first of three
pub option_or-assoc : {T : Type 0} (a b c : Option T)
    → option_or (option_or a b) c ≡ option_or a (option_or b c)
option_or-assoc None b c = refl
option_or-assoc (Some x) b c = refl

-- the last may be nothing
pub option_or-none : {T : Type 0} (a : Option T) → option_or a None ≡ a
option_or-none None = refl
option_or-none (Some x) = refl

-- what is told not to be there is not there
pub is_none-None : {T : Type 0} (a : Option T) → is_none a ≡ true → a ≡ None
is_none-None None e = refl
is_none-None (Some x) e = absurd (cc)

-- the order of an expression is that of its operator over the orders and fields of its inputs
pub order_of-parts : (t : ExprTree)
    → order_of t ≡ order_given (operator_in t) (orders_of (inputs_of (inputs_in t)))
    (all_fields (inputs_of (inputs_in t)))
order_of-parts t = ap order_of (sym (node-parts t))

-- its fields are those of its operator over the fields of its inputs
pub fields_of-parts : (t : ExprTree)
    → fields_of t ≡ fields_given (operator_in t) (all_fields (inputs_of (inputs_in t)))
fields_of-parts t = ap fields_of (sym (node-parts t))

-- its keys are those of its operator over the fields and keys of its inputs
pub keys_of-parts : (t : ExprTree)
    → keys_of t ≡ keys_given (operator_in t) (all_fields (inputs_of (inputs_in t)))
    (all_keys (inputs_of (inputs_in t)))
keys_of-parts t = ap keys_of (sym (node-parts t))

-- its first function without keys is that of its inputs, or else its own
pub keyless_of-parts : (t : ExprTree)
    → keyless_of t
    ≡ option_or (keyless_in (inputs_of (inputs_in t)))
    (unkeyed (function_name (operator_in t)) (keys_of t))
keyless_of-parts t =
    ap keyless_of (sym (node-parts t))
    ∙ ap
    (λ (keys : Option (List ByteList)).
    option_or (keyless_in (inputs_of (inputs_in t))) (unkeyed (function_name (operator_in t)) keys))
    (sym (keys_of-parts t))

-- its first fault is that of its operator at its place, or else that of its inputs
pub fault_where-parts : (roots : Roots) (place : Place) (is_there : ByteList → Bool) (t : ExprTree)
    → fault_where roots place is_there t
    ≡ option_or (fault_at roots place is_there (operator_in t) (inputs_of (inputs_in t)))
    (faults_where roots (place_in (operator_in t) place) is_there (inputs_of (inputs_in t)))
fault_where-parts roots place is_there t =
    ap (fault_where roots place is_there) (sym (node-parts t))

-- so it is the first of those two that are found
pub fault_found : (roots : Roots) (place inner : Place) (is_there : ByteList → Bool) (t : ExprTree)
    (own below found : Option CheckFault) → found ≡ option_or own below
    → own ≡ fault_at roots place is_there (operator_in t) (inputs_of (inputs_in t))
    → inner ≡ place_in (operator_in t) place
    → below ≡ faults_where roots inner is_there (inputs_of (inputs_in t))
    → found ≡ fault_where roots place is_there t
fault_found roots place inner is_there t own below found first here at under =
    let inputs = inputs_of (inputs_in t) in
    first
    ∙ ap (λ w. option_or w below) here
    ∙ ap (option_or (fault_at roots place is_there (operator_in t) inputs))
    (under ∙ ap (λ (p : Place). faults_where roots p is_there inputs) at)
    ∙ sym (fault_where-parts roots place is_there t)

-- what is so of each input so far and of one more, and of those to come, is what is so of all
pub inputs_more : {X : Type 0} (one : ExprTree → X) (each : ExprTrees → List X)
    → ((e : ExprTree) (exprs : ExprTrees) → each (an_expr e exprs) ≡ one e ∷ each exprs)
    → (exprs : List ExprTree) (k : ℕ) (e : ExprTree) (so_far : List X) (more : X)
    → k < length exprs → e ≡ get_or exprs k e → more ≡ one e
    → so_far ++ each (inputs_of (drop k exprs)) ≡ each (inputs_of exprs)
    → (so_far ++ more ∷ []) ++ each (inputs_of (drop (k + 1) exprs)) ≡ each (inputs_of exprs)
inputs_more one each first exprs k e so_far more lt is found all =
    let rest = each (inputs_of (drop (k + 1) exprs)) in
    append_assoc so_far (more ∷ []) rest
    ∙ ap (λ w. so_far ++ w)
    (ap (λ x. x ∷ rest) (found ∙ ap one is)
    ∙ sym (at_drop_more (λ r. each (inputs_of r)) exprs k e lt
    ∙ first (get_or exprs k e) (inputs_of (drop (k + 1) exprs))))
    ∙ all

-- the first of each input so far or of one more, or else of those to come, is that of all
pub firsts_more : {X : Type 0} (one : ExprTree → Option X) (each : ExprTrees → Option X)
    → ((e : ExprTree) (exprs : ExprTrees) → each (an_expr e exprs) ≡ option_or (one e) (each exprs))
    → (exprs : List ExprTree) (k : ℕ) (e : ExprTree) (so_far more : Option X)
    → k < length exprs → e ≡ get_or exprs k e → more ≡ one e
    → option_or so_far (each (inputs_of (drop k exprs))) ≡ each (inputs_of exprs)
    → option_or (option_or so_far more) (each (inputs_of (drop (k + 1) exprs)))
    ≡ each (inputs_of exprs)
firsts_more one each first exprs k e so_far more lt is found all =
    let rest = each (inputs_of (drop (k + 1) exprs)) in
    option_or-assoc so_far more rest
    ∙ ap (option_or so_far)
    (ap (λ x. option_or x rest) (found ∙ ap one is)
    ∙ sym (at_drop_more (λ r. each (inputs_of r)) exprs k e lt
    ∙ first (get_or exprs k e) (inputs_of (drop (k + 1) exprs))))
    ∙ all

-- the first fault so far or of one more, or else of those to come, is that of all
pub faults_more : (roots : Roots) (place : Place) (is_there : ByteList → Bool)
    (exprs : List ExprTree) (k : ℕ) (e : ExprTree) (so_far more : Option CheckFault)
    → k < length exprs → e ≡ get_or exprs k e → more ≡ fault_where roots place is_there e
    → option_or so_far (faults_where roots place is_there (inputs_of (drop k exprs)))
    ≡ faults_where roots place is_there (inputs_of exprs)
    → option_or (option_or so_far more)
    (faults_where roots place is_there (inputs_of (drop (k + 1) exprs)))
    ≡ faults_where roots place is_there (inputs_of exprs)
faults_more roots place is_there exprs k e so_far more lt is fault all =
    firsts_more (fault_where roots place is_there) (faults_where roots place is_there)
    (λ t ts. refl) exprs k e so_far more lt is fault all
