-- What is held of the inputs of an expression without a fault.
use Rattle.std.proofs.Common.{◌≡◌, ℕ, suc, zero, ◌+◌, ◌<◌, ◌≤◌, List, [], ◌∷◌, ◌++◌, length, get_or, take}
use Rattle.std.proofs.Common.{Bool, true, false, ◌&&◌, Option, Some, None, refl, sym, ◌∙◌, ap}
use Rattle.std.proofs.Common.{subst, arith, if◌then◌else◌, fold, ◌==◌}
use Rattle.std.proofs.lemmas.Bool.Decides.{Decides-eqb}
use Rattle.std.specs.Prelude.{flat_map}
use Rattle.std.proofs.lemmas.List.{append-nil, take_more}
use Rattle.tuple_values.specs.Document.{ByteList}
use Rattle.sort_spec.specs.Texts.{once}
use Rattle.expr_types.specs.ExprTree.{Operator, search, tuple, select, having, sort, top, unique}
use Rattle.expr_types.specs.ExprTree.{merge, reduce, rollup, inner_join, left_outer_join, intersect}
use Rattle.expr_types.specs.ExprTree.{complement, hash_join, outer_hash_join, in_parallel, topic}
use Rattle.expr_types.specs.ExprTree.{update, commit, daemon}
use Rattle.expr_types.specs.ExprTree.{ExprTree, node, ExprTrees, no_exprs, an_expr, expr_list}
use Rattle.expr_types.specs.ExprTree.{inputs_in, inputs_of, operator_in}
use Rattle.expr_types.specs.Planned.{AreWell, AreAllWell, IsPlanned, size, sizes}
use Rattle.expr_types.proofs.TreeLemmas.{inputs_of-expr_list, expr_list-inputs_of}
use Rattle.expr_check.specs.Held.{IsHeld, AreHeld, NoneRuns, held_parts, AreFound, IsFound}
use Rattle.expr_types.specs.Limits.{is_between, may_be_between, batch_limit, interval_limit}
use Rattle.expr_types.specs.Limits.{id_limit}
use Rattle.expr_check.specs.Parts.{PartTree, input_of, parallels_of, parallels_in, first_tree}
use Rattle.expr_check.specs.Parts.{parts_at}
use Rattle.expr_check.specs.Splits.{Split}
use Rattle.expr_check.specs.Rules.{runs_input, split_by, read_by, stands, place_in}
use Rattle.expr_check.proofs.NeedLemmas.{and_first}
use Rattle.expr_check.specs.Walk.{fault_at, fault_where, faults_where}
use Rattle.expr_check.specs.Walk.{searched_in, all_searched, collections_of}
use Rattle.expr_check.specs.Walked.{AreWalked}
use Rattle.expr_check.specs.Reads.{with_name}
use Rattle.expr_check.specs.declared.checked.Within.{Within}
use Rattle.expr_check.specs.declared.checked.Within.TheVariants.{Input, Parallels}
use Rattle.expr_check.specs.declared.roots.Place.{Place}
use Rattle.expr_check.specs.declared.roots.Roots.{Roots}
use Rattle.expr_check.specs.declared.roots.Roots.TheVariants.{Plain, All}
use Rattle.expr_check.specs.declared.roots.Round.TheVariants.{Other}
use Rattle.expr_check.specs.declared.walked.WalkedInputs.{WalkedInputs}
use Rattle.expr_check.proofs.FaultLemmas.{none_first, none_second, stands_at}
use Rattle.expr_check.proofs.ReadLemmas.{collections_of-parts}

-- one more expression, of which it is held too
pub held_more : (ws : List Within) (w : Within) (ts : List ExprTree) (t : ExprTree)
    → AreHeld ws ts → IsHeld w t → AreHeld (ws ++ (w ∷ [])) (ts ++ (t ∷ []))
held_more [] w [] t hs h = (h, tt)
held_more [] w (s ∷ ts) t hs h = absurd hs
held_more (v ∷ ws) w [] t hs h = absurd hs
held_more (v ∷ ws) w (s ∷ ts) t hs h = (hs.0, held_more ws w ts t hs.1 h)

-- so of the inputs up to a place and of the one there
pub held_next : (ws : List Within) (w : Within) (exprs : List ExprTree) (k : ℕ) (e : ExprTree)
    → k < length exprs → e ≡ get_or exprs k e → AreHeld ws (take k exprs) → IsHeld w e
    → AreHeld (ws ++ (w ∷ [])) (take (k + 1) exprs)
held_next ws w exprs k e lt is hs h =
    subst (AreHeld (ws ++ (w ∷ [])))
    (ap (λ (x : ExprTree). take k exprs ++ (x ∷ [])) is ∙ sym (take_more exprs k e lt))
    (held_more ws w (take k exprs) e hs h)

-- where none of the expressions runs an input, the parts that are held are all of theirs
pub parts_held : (ws : List Within) (ts : List ExprTree) → AreHeld ws ts → NoneRuns ts
    → flat_map held_parts ws ≡ parallels_in (inputs_of ts)
parts_held [] [] hs n = refl
parts_held [] (t ∷ ts) hs n = absurd hs
parts_held (w ∷ ws) [] hs n = absurd hs
parts_held (Input checked ∷ ws) (t ∷ ts) hs n =
    let running = hs.0 in let none = n.0 in absurd (cc)
parts_held (Parallels parts ∷ ws) (t ∷ ts) hs n =
    ap (λ (l : List PartTree). l ++ flat_map held_parts ws) hs.0.1
    ∙ ap (λ (l : List PartTree). parallels_of t ++ l) (parts_held ws ts hs.1 n.1)

-- a place in a function that doesn't run its input
abbrev pub elsewhere : Bool → Place
elsewhere deep = record { round = Other; in_parallel = deep }

-- what stands there runs no input
elsewhere_runs : (roots : Roots) (deep : Bool) (op : Operator)
    → stands roots (elsewhere deep) op ≡ true → runs_input op ≡ false
elsewhere_runs roots deep (search p) e = refl
elsewhere_runs roots deep (tuple fields) e = refl
elsewhere_runs roots deep (select items) e = refl
elsewhere_runs roots deep (having condition) e = refl
elsewhere_runs roots deep (sort by) e = refl
elsewhere_runs roots deep (top n by) e = refl
elsewhere_runs roots deep (unique over) e = refl
elsewhere_runs roots deep (merge on) e = refl
elsewhere_runs roots deep (reduce by op) e = refl
elsewhere_runs roots deep (rollup over metrics) e = refl
elsewhere_runs roots deep (inner_join on) e = refl
elsewhere_runs roots deep (left_outer_join on) e = refl
elsewhere_runs roots deep (intersect on) e = refl
elsewhere_runs roots deep (complement on) e = refl
elsewhere_runs roots deep (hash_join on) e = refl
elsewhere_runs roots deep (outer_hash_join on) e = refl
elsewhere_runs roots deep (in_parallel collection workers by) e = refl
elsewhere_runs roots deep (topic p) e = refl
elsewhere_runs Plain deep (update dest size) e = absurd (cc)
elsewhere_runs All deep (update dest size) e = absurd (cc)
elsewhere_runs Plain deep (commit dest size) e = absurd (cc)
elsewhere_runs All deep (commit dest size) e = absurd (cc)
elsewhere_runs Plain deep (daemon id interval terminate) e = absurd (cc)
elsewhere_runs All deep (daemon id interval terminate) e = absurd (cc)

-- an expression of an operator that runs no input runs none
runs_none : (op : Operator) (inputs : ExprTrees) → runs_input op ≡ false
    → input_of (node op inputs) ≡ None
runs_none op inputs e = ap (λ (b : Bool). if b then first_tree inputs else None) e

-- expressions without a fault there run no inputs
elsewhere_alone : (roots : Roots) (deep : Bool) (is_there : ByteList → Bool) (ts : ExprTrees)
    → faults_where roots (elsewhere deep) is_there ts ≡ None → NoneRuns (expr_list ts)
elsewhere_alone roots deep is_there no_exprs e = tt
elsewhere_alone roots deep is_there (an_expr (node op inputs) ts) e =
    let place = elsewhere deep in
    let t = node op inputs in
    let whole = fault_where roots place is_there t in
    let rest = faults_where roots place is_there ts in
    let here =
    none_first (fault_at roots place is_there op inputs)
    (faults_where roots (place_in op place) is_there inputs) (none_first whole rest e) in (
      runs_none op inputs (elsewhere_runs roots deep op (stands_at roots place is_there op inputs here)),
      elsewhere_alone roots deep is_there ts (none_second whole rest e),
    )

-- so do the inputs of an operator that runs none
pub inputs_alone : (roots : Roots) (place : Place) (is_there : ByteList → Bool) (op : Operator)
    (inputs : ExprTrees) → runs_input op ≡ false
    → faults_where roots (place_in op place) is_there inputs ≡ None → NoneRuns (expr_list inputs)
inputs_alone roots place is_there (search p) inputs r e =
    elsewhere_alone roots place.in_parallel is_there inputs e
inputs_alone roots place is_there (tuple fields) inputs r e =
    elsewhere_alone roots place.in_parallel is_there inputs e
inputs_alone roots place is_there (select items) inputs r e =
    elsewhere_alone roots place.in_parallel is_there inputs e
inputs_alone roots place is_there (having condition) inputs r e =
    elsewhere_alone roots place.in_parallel is_there inputs e
inputs_alone roots place is_there (sort by) inputs r e =
    elsewhere_alone roots place.in_parallel is_there inputs e
inputs_alone roots place is_there (top n by) inputs r e =
    elsewhere_alone roots place.in_parallel is_there inputs e
inputs_alone roots place is_there (unique over) inputs r e =
    elsewhere_alone roots place.in_parallel is_there inputs e
inputs_alone roots place is_there (merge on) inputs r e =
    elsewhere_alone roots place.in_parallel is_there inputs e
inputs_alone roots place is_there (reduce by op) inputs r e =
    elsewhere_alone roots place.in_parallel is_there inputs e
inputs_alone roots place is_there (rollup over metrics) inputs r e =
    elsewhere_alone roots place.in_parallel is_there inputs e
inputs_alone roots place is_there (inner_join on) inputs r e =
    elsewhere_alone roots place.in_parallel is_there inputs e
inputs_alone roots place is_there (left_outer_join on) inputs r e =
    elsewhere_alone roots place.in_parallel is_there inputs e
inputs_alone roots place is_there (intersect on) inputs r e =
    elsewhere_alone roots place.in_parallel is_there inputs e
inputs_alone roots place is_there (complement on) inputs r e =
    elsewhere_alone roots place.in_parallel is_there inputs e
inputs_alone roots place is_there (hash_join on) inputs r e =
    elsewhere_alone roots place.in_parallel is_there inputs e
inputs_alone roots place is_there (outer_hash_join on) inputs r e =
    elsewhere_alone roots place.in_parallel is_there inputs e
inputs_alone roots place is_there (in_parallel collection workers by) inputs r e =
    elsewhere_alone roots true is_there inputs e
inputs_alone roots place is_there (topic p) inputs r e =
    elsewhere_alone roots place.in_parallel is_there inputs e
inputs_alone roots place is_there (update dest size) inputs r e = absurd (cc)
inputs_alone roots place is_there (commit dest size) inputs r e = absurd (cc)
inputs_alone roots place is_there (daemon id interval terminate) inputs r e = absurd (cc)

-- the collections of an expression whose operator reads none are those of its only input
only_reads : (op : Operator) (e : ExprTree) → read_by op ≡ []
    → collections_of (node op (an_expr e no_exprs)) ≡ collections_of e
only_reads op e none =
    ap (λ (l : List ByteList). once (l ++ (searched_in e ++ []))) none
    ∙ ap once (append-nil (searched_in e))

-- what is found of an only input
only_found : (op : Operator) (e : ExprTree) (walked : WalkedInputs) (withins : List Within)
    → AreFound walked withins (node op (an_expr e no_exprs)) → read_by op ≡ []
    → IsFound walked withins e
only_found op e walked withins f none = record {
  planned = (f.planned.0.1.1.0, omega (arith, f.planned.1));
  faultless =
      let none = f.faultless in
      record {
        roots = none.roots;
        place = none.place;
        is_there = none.is_there;
        none = none_first (fault_where none.roots none.place none.is_there e) None none.none;
      };
  order = f.told.orders;
  fields = f.told.fields;
  reads = f.reads ∙ only_reads op e none;
  held = f.held;
}

-- the same of the only input of what is such an expression
pub input_found : (op : Operator) (t e : ExprTree) (walked : WalkedInputs) (withins : List Within)
    → AreFound walked withins t → t ≡ node op (an_expr e no_exprs) → read_by op ≡ []
    → IsFound walked withins e
input_found op t e walked withins f is none =
    only_found op e walked withins (subst (AreFound walked withins) is f) none

-- an input of what a plan gives is so
planned_in : (exprs : List ExprTree) (k : ℕ) (e : ExprTree) → k < length exprs
    → e ≡ get_or exprs k e → AreAllWell (inputs_of exprs)
    → AreWell e × (size e ≤ sizes (inputs_of exprs))
planned_in [] k e lt is w = absurd (omega arith)
planned_in (t ∷ ts) zero e lt is w = (
  subst AreWell (sym is) w.0,
  let same : size e ≡ size t = ap size is in omega arith,
)
planned_in (t ∷ ts) (suc k) e lt is w =
    let rest = planned_in ts k e (omega arith) is w.1 in (rest.0, let le = rest.1 in omega arith)

-- an input of a whole expression that a plan gives is so
pub planned_input : (t : ExprTree) (k : ℕ) (e : ExprTree) → IsPlanned t
    → k < length (inputs_in t) → e ≡ get_or (inputs_in t) k e → IsPlanned e
planned_input (node op inputs) k e p lt is =
    let same = inputs_of-expr_list inputs in
    let found = planned_in (expr_list inputs) k e lt is (subst AreAllWell (sym same) p.0.1.1) in
    let sums : sizes (inputs_of (expr_list inputs)) ≡ sizes inputs = ap sizes same in
    let few = p.1 in
    let le = found.1 in (found.0, omega arith)

-- what was found of the inputs of an expression, where none of them has a fault
pub found_below : (roots : Roots) (place inner : Place) (is_there : ByteList → Bool) (t : ExprTree)
    (walked : WalkedInputs) (withins : List Within) → IsPlanned t → AreWalked walked t
    → walked.reads
    ≡ fold with_name (once (read_by (operator_in t))) (all_searched (inputs_of (inputs_in t)))
    → inner ≡ place_in (operator_in t) place
    → walked.fault ≡ faults_where roots inner is_there (inputs_of (inputs_in t))
    → (walked.fault ≡ None → AreHeld withins (inputs_in t)) → walked.fault ≡ None
    → AreFound walked withins t
found_below roots place inner is_there t walked withins planned found reads at fault held none =
    let inputs = inputs_of (inputs_in t) in
    let op = operator_in t in
    let faultless : faults_where roots (place_in op place) is_there inputs ≡ None =
    ap (λ (p : Place). faults_where roots p is_there inputs) (sym at) ∙ sym fault ∙ none in
    record {
      planned = planned;
      faultless = record {
        roots = roots;
        place = place_in op place;
        is_there = is_there;
        none = faultless;
      };
      told = found;
      reads = reads ∙ sym (collections_of-parts t);
      held = held none;
      alone = λ runs.
          subst NoneRuns (expr_list-inputs_of (inputs_in t))
          (inputs_alone roots place is_there op inputs runs faultless);
    }

-- what an expression that neither runs its input nor splits its work holds
pub held_alone : (t : ExprTree) (withins : List Within) (parts : List PartTree)
    → AreHeld withins (inputs_in t)
    → (runs_input (operator_in t) ≡ false → NoneRuns (inputs_in t))
    → runs_input (operator_in t) ≡ false → split_by (operator_in t) ≡ None
    → parts ≡ flat_map held_parts withins
    → (input_of t ≡ None) × (parts ≡ parallels_of t)
held_alone (node op inputs) withins parts hs alone runs splits found = (
  runs_none op inputs runs,
  found
      ∙ parts_held withins (expr_list inputs) hs (alone runs)
      ∙ ap parallels_in (inputs_of-expr_list inputs)
      ∙ sym (ap (λ (s : Option Split). parts_at s inputs (parallels_in inputs)) splits),
)

-- as many as one are one
is_one : (n : ℕ) → (n == 1) ≡ true → n ≡ 1
is_one n e = (Decides-eqb n 1).0 e

-- the parts of an only input
one_only : (inputs : ExprTrees) (e : ExprTree) → length (expr_list inputs) ≡ 1
    → first_tree inputs ≡ Some e → parallels_in inputs ≡ parallels_of e
one_only no_exprs e n f = absurd (cc)
one_only (an_expr t no_exprs) e n f =
    let one : t ≡ e = cc in append-nil (parallels_of t) ∙ ap parallels_of one
one_only (an_expr t (an_expr s ts)) e n f = absurd (omega arith)

-- the outermost parallel calls of an expression that runs its input are those of its input
pub run_parts : (t e : ExprTree) → AreWell t → input_of t ≡ Some e
    → parallels_of t ≡ parallels_of e
run_parts (node (search p) inputs) e w is = absurd (cc)
run_parts (node (tuple fields) inputs) e w is = absurd (cc)
run_parts (node (select items) inputs) e w is = absurd (cc)
run_parts (node (having condition) inputs) e w is = absurd (cc)
run_parts (node (sort by) inputs) e w is = absurd (cc)
run_parts (node (top n by) inputs) e w is = absurd (cc)
run_parts (node (unique over) inputs) e w is = absurd (cc)
run_parts (node (merge on) inputs) e w is = absurd (cc)
run_parts (node (reduce by op) inputs) e w is = absurd (cc)
run_parts (node (rollup over metrics) inputs) e w is = absurd (cc)
run_parts (node (inner_join on) inputs) e w is = absurd (cc)
run_parts (node (left_outer_join on) inputs) e w is = absurd (cc)
run_parts (node (intersect on) inputs) e w is = absurd (cc)
run_parts (node (complement on) inputs) e w is = absurd (cc)
run_parts (node (hash_join on) inputs) e w is = absurd (cc)
run_parts (node (outer_hash_join on) inputs) e w is = absurd (cc)
run_parts (node (in_parallel collection workers by) inputs) e w is = absurd (cc)
run_parts (node (topic p) inputs) e w is = absurd (cc)
run_parts (node (update dest size) inputs) e w is =
    let many = length (expr_list inputs) in
    one_only inputs e (is_one many (and_first (many == 1) (is_between 1 batch_limit size) w.0)) is
run_parts (node (commit dest size) inputs) e w is =
    let many = length (expr_list inputs) in
    one_only inputs e (is_one many (and_first (many == 1) (may_be_between 0 batch_limit size) w.0))
    is
run_parts (node (daemon id interval terminate) inputs) e w is =
    let many = length (expr_list inputs) in
    one_only inputs e
    (is_one many
    (and_first (many == 1) (is_between 0 interval_limit interval)
    (and_first (many == 1 && is_between 0 interval_limit interval)
    (is_between 1 id_limit (length id)) w.0)))
    is
