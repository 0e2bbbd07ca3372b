-- What a call stands for is what a plan is like: each operator of it is well over as many inputs as
-- it has, and no more calls stand in it than in the call.
use Rattle.std.specs.Prelude.{◌==◌, nat_le, is_some}
use Rattle.std.proofs.lemmas.Bool.Decides.{nat_tests}
use Rattle.std.proofs.Common.{◌≡◌, ◌≤◌, ℕ, ◌+◌, List, [], ◌∷◌, ◌++◌, Bool, true, false}
use Rattle.std.proofs.Common.{cond, Option, Some, None, Result, Ok, subst, length}
use Rattle.std.proofs.Common.{ap, sym, ◌∙◌, refl, arith}
use Rattle.std.specs.List.{AllByRecursion}
use Rattle.std.proofs.lemmas.List.{length-append}
use Rattle.tuple_values.specs.Document.{ByteList, is_named}
use Rattle.expr_reader.specs.Tree.{CallTree, call, ArgTree, plain, named, named_call, sub, renamed}
use Rattle.expr_reader.specs.Tree.{ArgTrees, no_args, an_arg, calls, arg_calls, args_calls}
use Rattle.expr_types.specs.ExprTree.{ExprTree, node, inputs_of, expr_list}
use Rattle.expr_types.specs.Planned.{AreWell, AreAllWell, size, sizes, IsPlanned}
use Rattle.expr_types.specs.Planned.{call_limit}
use Rattle.expr_plan.specs.Given.{Walked, nothing_given}
use Rattle.expr_plan.specs.Fault.{and_then}
use Rattle.expr_plan.specs.Functions.{function_of}
use Rattle.expr_plan.specs.Functions.{takes_all, with_keyed, is_number, input_key}
use Rattle.expr_plan.specs.Helpers.{is_input, made_names}
use Rattle.expr_plan.specs.Walk.{planned, inputs_planned, input_planned, known, in_turn, if_input}
use Rattle.expr_plan.specs.ArgumentFaults.{arg_faults, names_after}
use Rattle.expr_plan.specs.Operators.{operator_of}
use Rattle.expr_plan.specs.Table.{row_of}
use Rattle.expr_plan.specs.Walk.{walked_of, inputs_found}
use Rattle.expr_plan.specs.declared.fault.PlanFault.{PlanFault}
use Rattle.expr_plan.specs.declared.row.Function.{Function}
use Rattle.expr_plan.specs.declared.row.Inputs.{Inputs}
use Rattle.expr_plan.specs.declared.row.Inputs.TheVariants.{Exactly, AtLeast}
use Rattle.expr_plan.specs.declared.row.Place.{Place}
use Rattle.expr_plan.specs.declared.row.Place.TheVariants.{Alone, UnderKey}
use Rattle.expr_plan.proofs.ShapeLemmas.{fine, fine_same, and_then-ok}
use Rattle.expr_plan.proofs.OperatorLemmas.{walked_parts, walked_takes, is_there, operator_well}
use Rattle.expr_plan.proofs.OperatorLemmas.{operator_read}
use Rattle.expr_plan.proofs.ArgumentFaultLemmas.{told, given_named, args_tell}
use Rattle.expr_plan.proofs.KeyedLemmas.{IsKeyed, one_if, keyed_known, keyed_found, none_found}
use Rattle.expr_plan.proofs.LawLemmas.{first_none}

-- each of some expressions is well
abbrev AllWell : List ExprTree → Type 0
AllWell inputs = AllByRecursion AreWell inputs

-- those of two lists
well-append : (first rest : List ExprTree) → AllWell first → AllWell rest → AllWell (first ++ rest)
well-append [] rest a b = b
well-append (e ∷ first) rest a b = (a.0, well-append first rest a.1 b)

-- as inputs
inputs_well : (inputs : List ExprTree) → AllWell inputs → AreAllWell (inputs_of inputs)
inputs_well [] all = tt
inputs_well (e ∷ inputs) all = (all.0, inputs_well inputs all.1)

-- inputs are as many as in the list
inputs-length : (inputs : List ExprTree) → length (expr_list (inputs_of inputs)) ≡ length inputs
inputs-length [] = refl
inputs-length (e ∷ inputs) = let later = inputs-length inputs in omega arith

-- the calls in the inputs of two lists
sizes-append : (first rest : List ExprTree)
    → sizes (inputs_of (first ++ rest)) ≡ sizes (inputs_of first) + sizes (inputs_of rest)
sizes-append [] rest = omega arith
sizes-append (e ∷ first) rest = let later = sizes-append first rest in omega arith

-- the inputs that an argument that is a call gives
call_width : (wanted : Result ExprTree PlanFault) (inputs : List ExprTree) (b : Bool)
    → if_input b wanted ≡ Ok inputs → length inputs ≡ cond b 1 0
call_width wanted inputs true e =
    let x = and_then-ok wanted (λ e. fine (e ∷ [])) inputs e in
    sym (ap (λ (l : List ExprTree). length l) (fine_same (x.0 ∷ []) inputs x.2))
call_width wanted inputs false e =
    sym (ap (λ (l : List ExprTree). length l) (fine_same [] inputs e))

-- those that an argument gives
input_width : (place : Place) (f : Function) (a : ArgTree) (inputs : List ExprTree)
    → input_planned place f a ≡ Ok inputs → length inputs ≡ cond (is_input place f a) 1 0
input_width place f (plain text quoted) inputs e =
    sym (ap (λ (l : List ExprTree). length l) (fine_same [] inputs e))
input_width place f (named key text quoted) inputs e =
    sym (ap (λ (l : List ExprTree). length l) (fine_same [] inputs e))
input_width place f (named_call key c) inputs e =
    call_width (planned c) inputs (is_input place f (named_call key c)) e
input_width place f (sub c) inputs e =
    call_width (planned c) inputs (is_input place f (sub c)) e
input_width place f (renamed c to) inputs e =
    sym (ap (λ (l : List ExprTree). length l) (fine_same [] inputs e))

-- the two parts of inputs in turn
pub record Turns (inputs others : Result (List ExprTree) PlanFault) (all : List ExprTree)
    : Type 0 where
  pub first : List ExprTree
  pub rest : List ExprTree
  pub here : inputs ≡ Ok first
  pub there : others ≡ Ok rest
  pub is : first ++ rest ≡ all

-- where neither has a fault
in_turn-ok : (inputs others : Result (List ExprTree) PlanFault) (all : List ExprTree)
    → in_turn inputs others ≡ Ok all → Turns inputs others all
in_turn-ok inputs others all e =
    let x = and_then-ok inputs (λ first. and_then others (λ rest. Ok (first ++ rest))) all e in
    let y = and_then-ok others (λ rest. Ok (x.0 ++ rest)) all x.2 in record {
      first = x.0;
      rest = y.0;
      here = x.1;
      there = y.1;
      is = fine_same (x.0 ++ y.0) all y.2;
    }

-- there are as many as were found
pub inputs_width : (place : Place) (f : Function) (args : ArgTrees) (inputs : List ExprTree)
    → inputs_planned place f args ≡ Ok inputs → length inputs ≡ inputs_found place f args
inputs_width place f no_args inputs e =
    sym (ap (λ (l : List ExprTree). length l) (fine_same [] inputs e))
inputs_width place f (an_arg a args) inputs e =
    let p = in_turn-ok (input_planned place f a) (inputs_planned place f args) inputs e in
    let here = input_width place f a p.first p.here in
    let later = inputs_width place f args p.rest p.there in
    sym (ap (λ (l : List ExprTree). length l) p.is)
    ∙ length-append p.first p.rest
    ∙ ap (λ n. n + length p.rest) here
    ∙ ap (λ n. cond (is_input place f a) 1 0 + n) later

-- a call without a fault has an input under its key for one, if it has such a key
keyed_all : (f : Function) (args : ArgTrees) (w : Walked) → walked_of f args ≡ Ok w
    → (o : Option ByteList) → input_key f ≡ o → IsKeyed f o
    → inputs_found UnderKey f args ≡ one_if (is_some o)
keyed_all f args w e None is keyed = none_found f args is
keyed_all f args w e (Some key) is keyed =
    let made = made_names f args in
    let whole = args_tell f made nothing_given args in
    let read = (walked_parts f args w e).1 in
    let clear : arg_faults f made [] args ≡ [] =
    first_none (arg_faults f made [] args) (sym whole.0 ∙ ap told read) in
    let counted = keyed_found f key made is keyed.0 [] args clear in
    let there : is_named key (names_after f [] args) ≡ true =
    sym (ap (is_named key) (whole.1 w read)) ∙ sym (given_named key w.given)
    ∙ is_there f args w key e keyed.1 in
    omega (arith, counted, ap one_if there)

-- numbers that are told equal are so with one more each
same_more : (n m : ℕ) → (n == m) ≡ true → ((n + 1) == (m + 1)) ≡ true
same_more n m e = grind (arith, nat_tests)

-- and a number that is told no less
least_more : (n m : ℕ) → nat_le m n ≡ true → nat_le (m + 1) (n + 1) ≡ true
least_more n m e = grind (arith, nat_tests)

-- one more of both
number_more : (inputs : Inputs) (n : ℕ) (o : Option ByteList) → is_number inputs n ≡ true
    → is_number (with_keyed inputs o) (n + one_if (is_some o)) ≡ true
number_more inputs n None e = ap (is_number inputs) (omega arith) ∙ e
number_more (Exactly m) n (Some key) e = same_more n m e
number_more (AtLeast m) n (Some key) e = least_more n m e

-- there are as many inputs in all as the function takes
pub all_width : (f : Function) (args : ArgTrees) (w : Walked) (first rest : List ExprTree)
    → walked_of f args ≡ Ok w → inputs_planned Alone f args ≡ Ok first
    → inputs_planned UnderKey f args ≡ Ok rest → takes_all f (length (first ++ rest)) ≡ true
all_width f args w first rest e a b =
    let keyed = keyed_all f args w e (input_key f) refl (keyed_known f) in
    let width : length (first ++ rest) ≡ inputs_found Alone f args + one_if (is_some (input_key f)) =
    length-append first rest
    ∙ ap (λ n. n + length rest) (inputs_width Alone f args first a)
    ∙ ap (λ n. inputs_found Alone f args + n) (inputs_width UnderKey f args rest b ∙ keyed) in
    ap (takes_all f) width
    ∙ number_more (row_of f).inputs (inputs_found Alone f args) (input_key f)
    (walked_takes f args w e)

-- an argument that is a call
call_well : (wanted : Result ExprTree PlanFault) (inputs : List ExprTree) (b : Bool)
    → ((t : ExprTree) → wanted ≡ Ok t → AreWell t)
    → if_input b wanted ≡ Ok inputs → AllWell inputs
call_well wanted inputs true well e =
    let x = and_then-ok wanted (λ e. fine (e ∷ [])) inputs e in
    subst AllWell (fine_same (x.0 ∷ []) inputs x.2) (well x.0 x.1, tt)
call_well wanted inputs false well e = subst AllWell (fine_same [] inputs e) tt

-- what is no input stands for no calls
none_small : (inputs : List ExprTree) (n : ℕ) → fine [] ≡ Ok inputs → sizes (inputs_of inputs) ≤ n
none_small inputs n e =
    subst (λ (x : List ExprTree). sizes (inputs_of x) ≤ n) (fine_same [] inputs e) (omega arith)

-- an argument that is a call stands for no more calls than are in it
call_small : (wanted : Result ExprTree PlanFault) (n : ℕ) (inputs : List ExprTree) (b : Bool)
    → ((t : ExprTree) → wanted ≡ Ok t → size t ≤ n)
    → if_input b wanted ≡ Ok inputs → sizes (inputs_of inputs) ≤ n
call_small wanted n inputs true small e =
    let x = and_then-ok wanted (λ e. fine (e ∷ [])) inputs e in
    let here = small x.0 x.1 in
    let alone : sizes (inputs_of (x.0 ∷ [])) ≤ n = omega arith in
    subst (λ (l : List ExprTree). sizes (inputs_of l) ≤ n) (fine_same (x.0 ∷ []) inputs x.2) alone
call_small wanted n inputs false small e = none_small inputs n e

-- the parts of a call without a fault
pub record Parts (name : ByteList) (args : ArgTrees) (t : ExprTree) : Type 0 where
  pub f : Function
  pub w : Walked
  pub first : List ExprTree
  pub rest : List ExprTree
  pub walked : walked_of f args ≡ Ok w
  pub alone : inputs_planned Alone f args ≡ Ok first
  pub keyed : inputs_planned UnderKey f args ≡ Ok rest
  pub is : node (operator_of f w) (inputs_of (first ++ rest)) ≡ t

-- a call without a fault has them
parts_of : (name : ByteList) (args : ArgTrees) (t : ExprTree) → planned (call name args) ≡ Ok t
    → Parts name args t
parts_of name args t e =
    let all : Function → Result (List ExprTree) PlanFault =
    λ f. in_turn (inputs_planned Alone f args) (inputs_planned UnderKey f args) in
    let over : Function → Walked → Result ExprTree PlanFault =
    λ f w. and_then (all f) (λ inputs. Ok (node (operator_of f w) (inputs_of inputs))) in
    let a = and_then-ok (known name (function_of name))
    (λ f. and_then (walked_of f args) (over f)) t e in
    let b = and_then-ok (walked_of a.0 args) (over a.0) t a.2 in
    let i = and_then-ok (all a.0)
    (λ inputs. Ok (node (operator_of a.0 b.0) (inputs_of inputs))) t b.2 in
    let p =
    in_turn-ok (inputs_planned Alone a.0 args) (inputs_planned UnderKey a.0 args) i.0 i.1 in
    record {
      f = a.0;
      w = b.0;
      first = p.first;
      rest = p.rest;
      walked = b.1;
      alone = p.here;
      keyed = p.there;
      is =
          ap (λ (l : List ExprTree). node (operator_of a.0 b.0) (inputs_of l)) p.is
          ∙ fine_same (node (operator_of a.0 b.0) (inputs_of i.0)) t i.2;
    }

mutual
  -- what a call stands for is well
  planned_well : (c : CallTree) (t : ExprTree) → planned c ≡ Ok t → AreWell t
  planned_well (call name args) t e =
      let p = parts_of name args t e in
      let op = operator_of p.f p.w in
      let inputs = p.first ++ p.rest in
      let takes : takes_all p.f (length (expr_list (inputs_of inputs))) ≡ true =
      ap (takes_all p.f) (inputs-length inputs)
      ∙ all_width p.f args p.w p.first p.rest p.walked p.alone p.keyed in
      subst AreWell p.is (
        operator_well p.f args p.w (length (expr_list (inputs_of inputs))) p.walked takes,
        (
          operator_read p.f args p.w p.walked,
          inputs_well inputs
              (well-append p.first p.rest (args_well Alone p.f args p.first p.alone)
              (args_well UnderKey p.f args p.rest p.keyed)),
        ),
      )

  args_well : (place : Place) (f : Function) (args : ArgTrees) (inputs : List ExprTree)
      → inputs_planned place f args ≡ Ok inputs → AllWell inputs
  args_well place f no_args inputs e = subst AllWell (fine_same [] inputs e) tt
  args_well place f (an_arg a args) inputs e =
      let p = in_turn-ok (input_planned place f a) (inputs_planned place f args) inputs e in
      subst AllWell p.is
      (well-append p.first p.rest (input_well place f a p.first p.here)
      (args_well place f args p.rest p.there))

  input_well : (place : Place) (f : Function) (a : ArgTree) (inputs : List ExprTree)
      → input_planned place f a ≡ Ok inputs → AllWell inputs
  input_well place f (plain text quoted) inputs e = subst AllWell (fine_same [] inputs e) tt
  input_well place f (named key text quoted) inputs e =
      subst AllWell (fine_same [] inputs e) tt
  input_well place f (named_call key c) inputs e =
      call_well (planned c) inputs (is_input place f (named_call key c)) (planned_well c) e
  input_well place f (sub c) inputs e =
      call_well (planned c) inputs (is_input place f (sub c)) (planned_well c) e
  input_well place f (renamed c to) inputs e = subst AllWell (fine_same [] inputs e) tt

mutual
  -- no more calls stand in it than in the call
  planned_small : (c : CallTree) (t : ExprTree) → planned c ≡ Ok t → size t ≤ calls c
  planned_small (call name args) t e =
      let p = parts_of name args t e in
      let small = args_small p.f args p.first p.rest p.alone p.keyed in
      let joined = sizes-append p.first p.rest in
      let here : size (node (operator_of p.f p.w) (inputs_of (p.first ++ p.rest)))
      ≤ calls (call name args) =
      omega arith in
      subst (λ (x : ExprTree). size x ≤ calls (call name args)) p.is here

  args_small : (f : Function) (args : ArgTrees) (first rest : List ExprTree)
      → inputs_planned Alone f args ≡ Ok first → inputs_planned UnderKey f args ≡ Ok rest
      → sizes (inputs_of first) + sizes (inputs_of rest) ≤ args_calls args
  args_small f no_args first rest a b =
      let x = none_small first 0 a in
      let y = none_small rest 0 b in omega arith
  args_small f (an_arg arg args) first rest a b =
      let p = in_turn-ok (input_planned Alone f arg) (inputs_planned Alone f args) first a in
      let q = in_turn-ok (input_planned UnderKey f arg) (inputs_planned UnderKey f args) rest b in
      let here = input_small f arg p.first q.first p.here q.here in
      let later = args_small f args p.rest q.rest p.there q.there in
      let x = sizes-append p.first p.rest in
      let y = sizes-append q.first q.rest in
      let is = ap (λ (l : List ExprTree). sizes (inputs_of l)) p.is in
      let other = ap (λ (l : List ExprTree). sizes (inputs_of l)) q.is in omega arith

  input_small : (f : Function) (a : ArgTree) (first rest : List ExprTree)
      → input_planned Alone f a ≡ Ok first → input_planned UnderKey f a ≡ Ok rest
      → sizes (inputs_of first) + sizes (inputs_of rest) ≤ arg_calls a
  input_small f (plain text quoted) first rest a b =
      let x = none_small first 0 a in
      let y = none_small rest 0 b in omega arith
  input_small f (named key text quoted) first rest a b =
      let x = none_small first 0 a in
      let y = none_small rest 0 b in omega arith
  input_small f (named_call key c) first rest a b =
      let x = none_small first 0 a in
      let y =
      call_small (planned c) (calls c) rest (is_input UnderKey f (named_call key c))
      (planned_small c) b in
      omega arith
  input_small f (sub c) first rest a b =
      let x =
      call_small (planned c) (calls c) first (is_input Alone f (sub c)) (planned_small c) a in
      let y = none_small rest 0 b in omega arith
  input_small f (renamed c to) first rest a b =
      let x = none_small first 0 a in
      let y = none_small rest 0 b in omega arith

-- what a call of so few calls stands for is what a plan is like
pub planned_is : (c : CallTree) (t : ExprTree) → planned c ≡ Ok t → calls c ≤ call_limit
    → IsPlanned t
planned_is c t e few =
    let small = planned_small c t e in
    let fits : size t ≤ call_limit = omega arith in
    (planned_well c t e, fits)
