-- Where the functions of an expression without a fault stand, and so what its root is.
use Rattle.std.proofs.Common.{◌≡◌, ℕ, Bool, true, false, ◌&&◌, None, refl, subst}
use Rattle.std.specs.Prelude.{IsSome}
use Rattle.std.specs.Option.{option_or}
use Rattle.tuple_values.specs.Document.{ByteList}
use Rattle.expr_types.specs.ExprTree.{Operator, search, tuple, select, having, sort, top, unique}
use Rattle.expr_types.specs.ExprTree.{merge, reduce, rollup, inner_join, left_outer_join, intersect}
use Rattle.expr_types.specs.ExprTree.{complement, hash_join, outer_hash_join, in_parallel, topic}
use Rattle.expr_types.specs.ExprTree.{update, commit, daemon, operator_in}
use Rattle.expr_types.specs.ExprTree.{ExprTree, node, ExprTrees, no_exprs, an_expr}
use Rattle.expr_types.specs.Plain.{is_plain, are_plain, IsPlain}
use Rattle.expr_types.specs.Rules.{rule_of}
use Rattle.expr_check.specs.Held.{IsFaultless}
use Rattle.expr_check.specs.Places.{holds_effects, within}
use Rattle.expr_check.specs.Roots.{IsRootOf, under_daemon}
use Rattle.expr_check.specs.Rules.{stands, place_in}
use Rattle.expr_check.specs.Walk.{fault_at, fault_where, faults_where}
use Rattle.expr_check.specs.declared.roots.Place.{Place}
use Rattle.expr_check.specs.declared.roots.Roots.{Roots}
use Rattle.expr_check.specs.declared.roots.Roots.TheVariants.{Plain, All}
use Rattle.expr_check.specs.declared.roots.Round.TheVariants.{Daemon}
use Rattle.expr_check.specs.declared.root.Root.{Root}
use Rattle.expr_check.specs.declared.root.Root.TheVariants as root
use Rattle.expr_check.proofs.FaultLemmas.{both, none_first, none_second, stands_at}
use Rattle.expr_check.proofs.HoldLemmas.{elsewhere}
use Rattle.expr_check.proofs.NeedLemmas.{and_first}

-- what may stand in a function that runs no input only reads
elsewhere_reads : (roots : Roots) (deep : Bool) (op : Operator)
    → stands roots (elsewhere deep) op ≡ true → (rule_of op).is_plain ≡ true
elsewhere_reads roots deep (search p) e = refl
elsewhere_reads roots deep (tuple fields) e = refl
elsewhere_reads roots deep (select items) e = refl
elsewhere_reads roots deep (having condition) e = refl
elsewhere_reads roots deep (sort by) e = refl
elsewhere_reads roots deep (top n by) e = refl
elsewhere_reads roots deep (unique over) e = refl
elsewhere_reads roots deep (merge on) e = refl
elsewhere_reads roots deep (reduce by op) e = refl
elsewhere_reads roots deep (rollup over metrics) e = refl
elsewhere_reads roots deep (inner_join on) e = refl
elsewhere_reads roots deep (left_outer_join on) e = refl
elsewhere_reads roots deep (intersect on) e = refl
elsewhere_reads roots deep (complement on) e = refl
elsewhere_reads roots deep (hash_join on) e = refl
elsewhere_reads roots deep (outer_hash_join on) e = refl
elsewhere_reads roots deep (in_parallel collection workers by) e = refl
elsewhere_reads Plain deep (topic p) e = absurd (cc)
elsewhere_reads All deep (topic p) e = absurd (cc)
elsewhere_reads Plain deep (update dest size) e = absurd (cc)
elsewhere_reads All deep (update dest size) e = absurd (cc)
elsewhere_reads Plain deep (commit dest size) e = absurd (cc)
elsewhere_reads All deep (commit dest size) e = absurd (cc)
elsewhere_reads Plain deep (daemon id interval terminate) e = absurd (cc)
elsewhere_reads All deep (daemon id interval terminate) e = absurd (cc)

-- the inputs of what only reads stand in such a function
inner_reads : (op : Operator) (place : Place) → (rule_of op).is_plain ≡ true
    → place_in op place ≡ elsewhere (place_in op place).in_parallel
inner_reads (search p) place e = refl
inner_reads (tuple fields) place e = refl
inner_reads (select items) place e = refl
inner_reads (having condition) place e = refl
inner_reads (sort by) place e = refl
inner_reads (top n by) place e = refl
inner_reads (unique over) place e = refl
inner_reads (merge on) place e = refl
inner_reads (reduce by op) place e = refl
inner_reads (rollup over metrics) place e = refl
inner_reads (inner_join on) place e = refl
inner_reads (left_outer_join on) place e = refl
inner_reads (intersect on) place e = refl
inner_reads (complement on) place e = refl
inner_reads (hash_join on) place e = refl
inner_reads (outer_hash_join on) place e = refl
inner_reads (in_parallel collection workers by) place e = refl
inner_reads (topic p) place e = absurd (cc)
inner_reads (update dest size) place e = absurd (cc)
inner_reads (commit dest size) place e = absurd (cc)
inner_reads (daemon id interval terminate) place e = absurd (cc)

mutual
  -- so an expression without a fault there only reads
  elsewhere_plain : (roots : Roots) (deep : Bool) (is_there : ByteList → Bool) (t : ExprTree)
      → fault_where roots (elsewhere deep) is_there t ≡ None → is_plain t ≡ true
  elsewhere_plain roots deep is_there (node op inputs) e =
      let place = elsewhere deep in
      let here = fault_at roots place is_there op inputs in
      let below = faults_where roots (place_in op place) is_there inputs in
      let reads =
      elsewhere_reads roots deep op
      (stands_at roots place is_there op inputs (none_first here below e)) in
      both (rule_of op).is_plain (are_plain inputs) reads
      (all_plain roots (place_in op place).in_parallel is_there inputs
      (subst (λ (p : Place). faults_where roots p is_there inputs ≡ None)
      (inner_reads op place reads) (none_second here below e)))

  -- and so do inputs
  all_plain : (roots : Roots) (deep : Bool) (is_there : ByteList → Bool) (ts : ExprTrees)
      → faults_where roots (elsewhere deep) is_there ts ≡ None → are_plain ts ≡ true
  all_plain roots deep is_there no_exprs e = refl
  all_plain roots deep is_there (an_expr t ts) e =
      let here = fault_where roots (elsewhere deep) is_there t in
      let rest = faults_where roots (elsewhere deep) is_there ts in
      both (is_plain t) (are_plain ts)
      (elsewhere_plain roots deep is_there t (none_first here rest e))
      (all_plain roots deep is_there ts (none_second here rest e))

-- an expression without a fault only reads where its function does
pub plain_root : (t : ExprTree) → IsFaultless t → (rule_of (operator_in t)).is_plain ≡ true
    → IsPlain t
plain_root (node op inputs) f reads =
    let here = fault_at f.roots f.place f.is_there op inputs in
    let inner = place_in op f.place in
    let below = faults_where f.roots inner f.is_there inputs in
    both (rule_of op).is_plain (are_plain inputs) reads
    (all_plain f.roots inner.in_parallel f.is_there inputs
    (subst (λ (p : Place). faults_where f.roots p f.is_there inputs ≡ None)
    (inner_reads op f.place reads) (none_second here below f.none)))

-- the only input of a function without a fault may stand where the function has it
input_stands : (op : Operator) (i : ExprTree) → (f : IsFaultless (node op (an_expr i no_exprs)))
    → stands f.roots (place_in op f.place) (operator_in i) ≡ true
input_stands op (node o ts) f =
    let inner = place_in op f.place in
    let here = fault_at f.roots f.place f.is_there op (an_expr (node o ts) no_exprs) in
    let whole = fault_where f.roots inner f.is_there (node o ts) in
    stands_at f.roots inner f.is_there o ts
    (none_first (fault_at f.roots inner f.is_there o ts)
    (faults_where f.roots (place_in o inner) f.is_there ts)
    (none_first whole None (none_second here (option_or whole None) f.none)))

-- and so may what the input is
stands_as : (op : Operator) (i t : ExprTree) → (f : IsFaultless (node op (an_expr i no_exprs)))
    → i ≡ t → stands f.roots (place_in op f.place) (operator_in t) ≡ true
stands_as op i t f is =
    subst (λ (x : ExprTree). stands f.roots (place_in op f.place) (operator_in x) ≡ true) is
    (input_stands op i f)

-- what may not stand there
never : (roots : Roots) → (holds_effects roots && false) ≡ true → ⊥
never Plain e = absurd (cc)
never All e = absurd (cc)

-- what only reads is no input of a daemon
reads_alone : (roots : Roots) (place : Place) (op : Operator) → (rule_of op).is_plain ≡ true
    → stands roots (within Daemon place) op ≡ true → ⊥
reads_alone roots place (search p) plain e = absurd (cc)
reads_alone roots place (tuple fields) plain e = absurd (cc)
reads_alone roots place (select items) plain e = absurd (cc)
reads_alone roots place (having condition) plain e = absurd (cc)
reads_alone roots place (sort by) plain e = absurd (cc)
reads_alone roots place (top n by) plain e = absurd (cc)
reads_alone roots place (unique over) plain e = absurd (cc)
reads_alone roots place (merge on) plain e = absurd (cc)
reads_alone roots place (reduce by op) plain e = absurd (cc)
reads_alone roots place (rollup over metrics) plain e = absurd (cc)
reads_alone roots place (inner_join on) plain e = absurd (cc)
reads_alone roots place (left_outer_join on) plain e = absurd (cc)
reads_alone roots place (intersect on) plain e = absurd (cc)
reads_alone roots place (complement on) plain e = absurd (cc)
reads_alone roots place (hash_join on) plain e = absurd (cc)
reads_alone roots place (outer_hash_join on) plain e = absurd (cc)
reads_alone roots place (in_parallel collection workers by) plain e = absurd (cc)
reads_alone roots place (topic p) plain e = absurd (cc)
reads_alone roots place (update dest size) plain e = absurd (cc)
reads_alone roots place (commit dest size) plain e = absurd (cc)
reads_alone roots place (daemon id interval terminate) plain e = absurd (cc)

module _ (id : ByteList) (interval : ℕ) (terminate : Bool) (i : ExprTree)
    (f : IsFaultless (node (daemon id interval terminate) (an_expr i no_exprs))) where
  -- what only reads is no input of a daemon without a fault
  no_reader : (t : ExprTree) → i ≡ t → IsPlain t → ⊥
  no_reader (node op inputs) is plain =
      reads_alone f.roots f.place op (and_first (rule_of op).is_plain (are_plain inputs) plain)
      (stands_as (daemon id interval terminate) i (node op inputs) f is)

  -- the input of a daemon without a fault may be its input
  pub may_repeat : (r : Root) → IsRootOf i r → IsSome (under_daemon r)
  may_repeat root.Reads is = absurd (no_reader i refl is)
  may_repeat (root.Topic p) is =
      absurd (never f.roots (stands_as (daemon id interval terminate) i _ f is))
  may_repeat (root.Update u) is = refl
  may_repeat (root.Commit c) is = refl
  may_repeat (root.Daemon d) is =
      absurd (never f.roots (stands_as (daemon id interval terminate) i _ f is.0))
