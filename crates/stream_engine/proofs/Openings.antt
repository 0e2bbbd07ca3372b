-- The streams of an expression's inputs, one after another.
use Rattle.std.proofs.Common.{◌≡◌, ℕ, suc, ◌+◌, ◌<◌, ◌&&◌, List, [], ◌∷◌, ◌++◌, length, get_or, drop, Bool}
use Rattle.std.proofs.Common.{true, None, refl, ap, sym, ◌∙◌, subst, arith}
use Rattle.std.specs.Prelude.{slice_index_or, Result, Ok, Err, IfOk}
use Rattle.std.specs.List.{AllByRecursion}
use Rattle.std.specs.Option.{option_or}
use Rattle.std.proofs.lemmas.List.{at_drop_more, map-append}
use Rattle.tuple_values.specs.Document.{ByteList, Doc}
use Rattle.sort_spec.specs.Sorting.{IsAscending}
use Rattle.sort_spec.specs.Terms.{less}
use Rattle.sort_spec.specs.declared.pair.OnPair.{OnPair}
use Rattle.sort_spec.specs.declared.term.SortTerm.{SortTerm}
use Rattle.expr_types.specs.ExprTree.{Operator, ExprTree, node, inputs_of, inputs_in, operator_in}
use Rattle.expr_types.specs.ExprTree.{expr_list, first_or, second_or}
use Rattle.expr_types.specs.Joins.{AreJoinable, left_names}
use Rattle.expr_types.specs.Rules.{Collections, AreAsNeeded, rule_of}
use Rattle.expr_types.specs.Orders.{IsSortedOver, sort_over}
use Rattle.expr_types.specs.Plain.{IsPlain, is_plain, are_plain}
use Rattle.expr_types.specs.Planned.{AreWell, AreAllWell}
use Rattle.expr_types.proofs.TreeLemmas.{node-parts}
use Rattle.expr_check.specs.Orders.{AreInOrder, directions_of}
use Rattle.expr_check.proofs.JoinLemmas.{joinable}
use Rattle.expr_check.specs.Rules.{need_at, itself_at, parted_at}
use Rattle.expr_check.specs.Walk.{orders_of, own_fault, own_faults, own_at, followed_in, keyless_in, all_keys}
use Rattle.expr_check.specs.Faults.{join_fault}
use Rattle.expr_check.specs.declared.order.Order.{Order}
use Rattle.expr_check.proofs.FaultLemmas.{none_first, none_second}
use Rattle.expr_check.proofs.LawLemmas.{hold_all, needs_hold}
use Rattle.expr_check.proofs.NeedLemmas.{and_first, and_second}
use Rattle.expr_check.proofs.WalkLemmas.{inputs_more}
use Rattle.merge_join.specs.Keys.{left_order, right_order, terms_of}
use Rattle.merge_join.proofs.KeyLemmas.{left_order-sort_over, right_order-sort_over}
use Rattle.part_laws.specs.Parted.{given_in_part, list_in_part, lists_in_part}
use Rattle.part_laws.specs.Parted.{MayBeParted, MayAllBeParted}
use Rattle.part_laws.proofs.KeyedLemmas.{parted_below, below_in_order}
use Rattle.stream_engine.specs.Flows.{Flow, rests_of}

-- an expression without a fault has none of its own, and none in its inputs
fault_parts : (t : ExprTree) → own_fault t ≡ None
    → (need_at (operator_in t) (orders_of (inputs_of (inputs_in t))) ≡ None)
    × (own_faults (inputs_of (inputs_in t)) ≡ None)
fault_parts t none =
    let op = operator_in t in
    let inputs = inputs_of (inputs_in t) in
    let parted = parted_at op (keyless_in inputs) (all_keys inputs) in
    let both : option_or (own_at op inputs) (own_faults inputs) ≡ None =
    ap own_fault (node-parts t) ∙ none in (
      none_first (need_at op (orders_of inputs)) parted
          (none_second (itself_at op (followed_in inputs))
          (option_or (need_at op (orders_of inputs)) parted)
          (none_first (own_at op inputs) (own_faults inputs) both)),
      none_second (own_at op inputs) (own_faults inputs) both,
    )

-- what only reads is an operator that only reads over inputs that do
pub plain_here : (t : ExprTree) → IsPlain t → (rule_of (operator_in t)).is_plain ≡ true
plain_here t plain =
    and_first (rule_of (operator_in t)).is_plain (are_plain (inputs_of (inputs_in t)))
    (ap is_plain (node-parts t) ∙ plain)

pub plain_inputs : (t : ExprTree) → IsPlain t → are_plain (inputs_of (inputs_in t)) ≡ true
plain_inputs t plain =
    and_second (rule_of (operator_in t)).is_plain (are_plain (inputs_of (inputs_in t)))
    (ap is_plain (node-parts t) ∙ plain)

-- the list of an expression in a part is that of its operator over the lists of its inputs there
pub list_in_part-parts : (docs : Collections) (index parts : ℕ) (t : ExprTree)
    → list_in_part docs index parts t
    ≡ given_in_part docs index parts (operator_in t)
    (lists_in_part docs index parts (inputs_of (inputs_in t)))
list_in_part-parts docs index parts t = ap (list_in_part docs index parts) (sym (node-parts t))

-- what is known of an operator over inputs of these orders, with these lists
pub record IsReadyOver (op : Operator) (orders : List Order) (lists : List (List Doc)) : Type 0 where
  pub sorted : AreAsNeeded op lists
  pub faultless : need_at op orders ≡ None
  pub in_order : AreInOrder orders lists

-- it holds of the operator of an expression without a fault, in each part
pub ready_over : (docs : Collections) (index parts : ℕ) (t : ExprTree) → AreWell t
    → own_fault t ≡ None → IsPlain t → index < parts → MayBeParted parts t
    → IsReadyOver (operator_in t) (orders_of (inputs_of (inputs_in t)))
    (lists_in_part docs index parts (inputs_of (inputs_in t)))
ready_over docs index parts t well none plain within parted =
    let op = operator_in t in
    let inputs = inputs_of (inputs_in t) in
    let whole = subst AreWell (sym (node-parts t)) well in
    let here = fault_parts t none in
    let held = hold_all docs inputs (plain_inputs t plain) whole.1.1 here.1 in
    let order =
    below_in_order docs index parts op inputs whole within
    (subst (MayBeParted parts) (sym (node-parts t)) parted) held.1 in
    record {
      sorted =
          needs_hold op (length (expr_list inputs)) (orders_of inputs)
          (lists_in_part docs index parts inputs) whole.0 here.0 order;
      faultless = here.0;
      in_order = order;
    }

-- also of orders and lists that are found
pub ready_found : (docs : Collections) (index parts : ℕ) (t : ExprTree) (orders : List Order)
    (lists : List (List Doc)) → AreWell t → own_fault t ≡ None → IsPlain t → index < parts
    → MayBeParted parts t → orders ≡ orders_of (inputs_of (inputs_in t))
    → lists ≡ lists_in_part docs index parts (inputs_of (inputs_in t))
    → IsReadyOver (operator_in t) orders lists
ready_found docs index parts t orders lists well none plain within parted are gives =
    subst (λ (l : List (List Doc)). IsReadyOver (operator_in t) orders l) (sym gives)
    (subst
    (λ (o : List Order).
    IsReadyOver (operator_in t) o (lists_in_part docs index parts (inputs_of (inputs_in t))))
    (sym are) (ready_over docs index parts t well none plain within parted))

-- the inputs of what may be parted may be
pub parted_inputs : (parts : ℕ) (t : ExprTree) → AreWell t → MayBeParted parts t
    → MayAllBeParted parts (inputs_of (inputs_in t))
parted_inputs parts t well parted =
    parted_below parts (operator_in t) (inputs_of (inputs_in t))
    (subst AreWell (sym (node-parts t)) well)
    (subst (MayBeParted parts) (sym (node-parts t)) parted)

-- the inputs of an expression that a plan gives are such
pub well_inputs : (t : ExprTree) → AreWell t → AreAllWell (inputs_of (inputs_in t))
well_inputs t well = (subst AreWell (sym (node-parts t)) well).1.1

-- and have no fault where it has none
pub faultless_inputs : (t : ExprTree) → own_fault t ≡ None
    → own_faults (inputs_of (inputs_in t)) ≡ None
faultless_inputs t none = (fault_parts t none).1

-- the expressions from a place on are the one there and the rest
pub from_place : (exprs : List ExprTree) (k : ℕ) (e : ExprTree) → k < length exprs
    → e ≡ get_or exprs k e → drop k exprs ≡ e ∷ drop (k + 1) exprs
from_place exprs k e lt is =
    at_drop_more (λ rest. rest) exprs k e lt ∙ ap (λ x. x ∷ drop (k + 1) exprs) (sym is)

-- where those from a place on are such as a plan gives, so are the one there and the rest
pub well_more : (exprs : List ExprTree) (k : ℕ) (e : ExprTree) → k < length exprs
    → e ≡ get_or exprs k e → AreAllWell (inputs_of (drop k exprs))
    → AreWell e × AreAllWell (inputs_of (drop (k + 1) exprs))
well_more exprs k e lt is well =
    subst (λ rest. AreAllWell (inputs_of rest)) (from_place exprs k e lt is) well

-- where they have no fault, neither has the one there nor the rest
pub faultless_more : (exprs : List ExprTree) (k : ℕ) (e : ExprTree) → k < length exprs
    → e ≡ get_or exprs k e → own_faults (inputs_of (drop k exprs)) ≡ None
    → (own_fault e ≡ None)
    × (own_faults (inputs_of (drop (k + 1) exprs)) ≡ None)
faultless_more exprs k e lt is none =
    let rest = own_faults (inputs_of (drop (k + 1) exprs)) in
    let both : option_or (own_fault e) rest ≡ None =
    sym (ap (λ l. own_faults (inputs_of l)) (from_place exprs k e lt is)) ∙ none in
    (none_first (own_fault e) rest both, none_second (own_fault e) rest both)

-- where they only read, so do the one there and the rest
pub plain_more : (exprs : List ExprTree) (k : ℕ) (e : ExprTree) → k < length exprs
    → e ≡ get_or exprs k e → are_plain (inputs_of (drop k exprs)) ≡ true
    → IsPlain e × (are_plain (inputs_of (drop (k + 1) exprs)) ≡ true)
plain_more exprs k e lt is plain =
    let rest = are_plain (inputs_of (drop (k + 1) exprs)) in
    let both : (is_plain e && rest) ≡ true =
    sym (ap (λ l. are_plain (inputs_of l)) (from_place exprs k e lt is)) ∙ plain in
    (and_first (is_plain e) rest both, and_second (is_plain e) rest both)

-- where they may be parted, so may the one there and the rest
pub parted_more : (parts : ℕ) (exprs : List ExprTree) (k : ℕ) (e : ExprTree) → k < length exprs
    → e ≡ get_or exprs k e → MayAllBeParted parts (inputs_of (drop k exprs))
    → MayBeParted parts e × MayAllBeParted parts (inputs_of (drop (k + 1) exprs))
parted_more parts exprs k e lt is parted =
    subst (λ rest. MayAllBeParted parts (inputs_of rest)) (from_place exprs k e lt is) parted

-- what the streams so far and one more give, and what the inputs to come give, is all
pub rests_more : (docs : Collections) (index parts : ℕ) (exprs : List ExprTree) (k : ℕ)
    (e : ExprTree) (flows : List Flow) (f : Flow) → k < length exprs → e ≡ get_or exprs k e
    → f.0 ≡ list_in_part docs index parts e
    → rests_of flows ++ lists_in_part docs index parts (inputs_of (drop k exprs))
    ≡ lists_in_part docs index parts (inputs_of exprs)
    → rests_of (flows ++ f ∷ []) ++ lists_in_part docs index parts (inputs_of (drop (k + 1) exprs))
    ≡ lists_in_part docs index parts (inputs_of exprs)
rests_more docs index parts exprs k e flows f lt is gives all =
    ap (λ w. w ++ lists_in_part docs index parts (inputs_of (drop (k + 1) exprs)))
    (map-append (λ (x : Flow). x.0) flows (f ∷ []))
    ∙ inputs_more (list_in_part docs index parts) (lists_in_part docs index parts) (λ e exprs. refl)
    exprs k e (rests_of flows) f.0 lt is gives all

-- there are as many lists as expressions
lists_width : (docs : Collections) (index parts : ℕ) (exprs : List ExprTree)
    → length (lists_in_part docs index parts (inputs_of exprs)) ≡ length exprs
lists_width docs index parts [] = refl
lists_width docs index parts (e ∷ exprs) = ap (λ n. suc n) (lists_width docs index parts exprs)

-- and as many rests as streams
rests_width : (flows : List Flow) → length (rests_of flows) ≡ length flows
rests_width [] = refl
rests_width (f ∷ flows) = ap (λ n. suc n) (rests_width flows)

-- streams that give the lists of expressions are as many
pub streams_width : (docs : Collections) (index parts : ℕ) (exprs : List ExprTree)
    (flows : List Flow) → rests_of flows ≡ lists_in_part docs index parts (inputs_of exprs)
    → length flows ≡ length exprs
streams_width docs index parts exprs flows e =
    sym (rests_width flows) ∙ ap (λ (l : List (List Doc)). length l) e
    ∙ lists_width docs index parts exprs

-- the first stream gives the first rest
pub first_rest : (flows : List Flow) (f : Flow) → length flows ≡ 1
    → f ≡ slice_index_or flows 0 f → f.0 ≡ first_or [] (rests_of flows)
first_rest [] f one is = absurd (cc)
first_rest (g ∷ flows) f one is = ap (λ (x : Flow). x.0) is

-- it is sorted where each of one stream is
pub first_sorted : (names : List ByteList) (flows : List Flow) → length flows ≡ 1
    → AllByRecursion (IsSortedOver names) (rests_of flows)
    → IsSortedOver names (first_or [] (rests_of flows))
first_sorted names [] one all = absurd (cc)
first_sorted names (f ∷ flows) one all = all.0

-- what an answer says of all lists it says of these
pub at_lists : {S E : Type 0} (r : Result S E) (Says : S → List (List Doc) → Type 0)
    (lists : List (List Doc)) → IfOk r (λ s. (all : List (List Doc)) → Says s all)
    → IfOk r (λ s. Says s lists)
at_lists (Ok s) Says lists h = h lists
at_lists (Err e) Says lists h = h

-- two streams give the first and the second rest
pub two_rests : (flows : List Flow) → length flows ≡ 2
    → rests_of flows ≡ first_or [] (rests_of flows) ∷ second_or [] (rests_of flows) ∷ []
two_rests [] two = absurd (cc)
two_rests (f ∷ []) two = absurd (omega arith)
two_rests (f ∷ g ∷ []) two = refl
two_rests (f ∷ g ∷ h ∷ flows) two = absurd (omega arith)

-- a kernel is ready for what two streams give, where it is ready for the first and the second list
pub two_ready : (Ready : List (List Doc) → Type 0) (flows : List Flow) → length flows ≡ 2
    → Ready (first_or [] (rests_of flows) ∷ second_or [] (rests_of flows) ∷ [])
    → Ready (rests_of flows)
two_ready Ready flows two ready = subst Ready (sym (two_rests flows two)) ready

-- inputs that may be joined are in the orders with which the kernel reads them
pub read_orders : (on : List OnPair) (directions : List Bool) (order : List SortTerm)
    (lists : List (List Doc)) → order ≡ sort_over (left_names on) directions
    → AreJoinable on directions lists
    → IsAscending (less (left_order (terms_of on order))) (first_or [] lists)
    × IsAscending (less (right_order (terms_of on order))) (second_or [] lists)
read_orders on directions order lists is joinable = (
  subst (λ (l : List SortTerm). IsAscending (less l) (first_or [] lists))
      (sym (ap (λ o. left_order (terms_of on o)) is ∙ left_order-sort_over on directions))
      joinable.lefts,
  subst (λ (l : List SortTerm). IsAscending (less l) (second_or [] lists))
      (sym (ap (λ o. right_order (terms_of on o)) is ∙ right_order-sort_over on directions))
      joinable.rights,
)

-- two inputs of what needs them in the order of pairs are two, and may be joined
pub two_joinable : (function : ByteList) (on : List OnPair) (op : Operator)
    → ((orders : List Order) → need_at op orders ≡ join_fault function on orders)
    → (t l r : ExprTree) → t ≡ node op (inputs_of (l ∷ r ∷ [])) → (orders : List Order)
    (flows : List Flow) → length flows ≡ length (inputs_in t)
    → need_at (operator_in t) orders ≡ None → AreInOrder orders (rests_of flows)
    → (length flows ≡ 2) × AreJoinable on (directions_of orders) (rests_of flows)
two_joinable function on op same t l r whole orders flows width faultless in_order = (
  width ∙ ap (λ (w : ExprTree). length (inputs_in w)) whole,
  joinable function on orders (rests_of flows)
      (sym (same orders) ∙ sym (ap (λ (w : ExprTree). need_at (operator_in w) orders) whole)
      ∙ faultless) in_order,
)
