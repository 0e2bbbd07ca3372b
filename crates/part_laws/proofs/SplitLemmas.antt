-- The work of each parallel in an expression that only reads and has no fault may be split.
use Rattle.std.proofs.Common.{◌≡◌, ℕ, ◌==◌, ◌<◌, ◌≤◌, List, Bool, true, false}
use Rattle.std.proofs.Common.{Option, Some, None, length, refl, arith, codes, IsSome}
use Rattle.std.specs.Prelude.{nat_le}
use Rattle.std.specs.List.{AllByRecursion}
use Rattle.std.specs.Option.{option_or}
use Rattle.std.proofs.lemmas.Bool.{eqb-true}
use Rattle.std.proofs.lemmas.Bool.Decides.{nat_tests}
use Rattle.tuple_values.specs.Document.{ByteList}
use Rattle.sort_spec.specs.declared.term.SortTerm.{SortTerm}
use Rattle.sort_spec.proofs.SortLemmas.{each_append}
use Rattle.expr_types.specs.ExprTree.{Operator, search, tuple, select, having, sort, top, unique}
use Rattle.expr_types.specs.ExprTree.{merge, reduce, rollup, inner_join, left_outer_join, intersect}
use Rattle.expr_types.specs.ExprTree.{complement, hash_join, outer_hash_join, in_parallel, topic}
use Rattle.expr_types.specs.ExprTree.{update, commit, daemon}
use Rattle.expr_types.specs.ExprTree.{ExprTree, node, ExprTrees, no_exprs, an_expr, expr_list}
use Rattle.expr_types.specs.Limits.{is_between, worker_limit}
use Rattle.expr_types.specs.Lists.{list_of}
use Rattle.expr_types.specs.Plain.{IsPlain, is_plain, are_plain}
use Rattle.expr_types.specs.Planned.{AreWell, AreAllWell}
use Rattle.expr_types.specs.Rules.{is_well, rule_of}
use Rattle.expr_check.specs.Faults.{sort_fault, sort_keys_fault, parted_fault}
use Rattle.expr_check.specs.Partitions.{holds_keys}
use Rattle.expr_check.specs.Parts.{parallels_of, parallels_in}
use Rattle.expr_check.specs.Rules.{need_at, itself_at, parted_at}
use Rattle.expr_check.specs.Walk.{order_of, orders_of, keys_of, all_keys, keyless_in, followed_in}
use Rattle.expr_check.specs.Walk.{own_at, own_fault, own_faults}
use Rattle.expr_check.proofs.FaultLemmas.{none_first, none_second, sort_met}
use Rattle.expr_check.proofs.JoinLemmas.{sort_ascends}
use Rattle.expr_check.proofs.LawLemmas.{holds_of}
use Rattle.expr_check.proofs.NeedLemmas.{and_first, and_second}
use Rattle.part_laws.specs.Splits.{IsSplit}
use Rattle.part_laws.proofs.KeyedLemmas.{no_parallel, where_some}

-- where a parallel has no fault of keys, its sort has a term of each
held_by : (held : Bool) → sort_keys_fault held ≡ None → held ≡ true
held_by true e = refl
held_by false e = absurd (cc)

keys_held : (by : List SortTerm) (keyless : Option ByteList) (keys : Option (List ByteList))
    → parted_fault by keyless keys ≡ None → holds_keys by keys ≡ true
keys_held by None keys e = held_by (holds_keys by keys) e
keys_held by (Some function) keys e = absurd (cc)

-- so there are keys
keys_there : (by : List SortTerm) (keys : Option (List ByteList)) → holds_keys by keys ≡ true
    → IsSome keys
keys_there by None e = absurd (cc)
keys_there by (Some keys) e = refl

-- numbers within limits
at_least : (low high n : ℕ) → is_between low high n ≡ true → low ≤ n
at_least low high n e =
    let first : nat_le low n ≡ true = and_first (nat_le low n) (nat_le n high) e in
    grind (arith, nat_tests)

at_most : (low high n : ℕ) → is_between low high n ≡ true → n ≤ high
at_most low high n e =
    let second : nat_le n high ≡ true = and_second (nat_le low n) (nat_le n high) e in
    grind (arith, nat_tests)

above_none : (n : ℕ) → 1 ≤ n → 0 < n
above_none n h = omega arith

-- what is so of an operator over inputs without a fault
need_none : (op : Operator) (ts : ExprTrees) → own_at op ts ≡ None
    → need_at op (orders_of ts) ≡ None
need_none op ts e =
    let parted = parted_at op (keyless_in ts) (all_keys ts) in
    none_first (need_at op (orders_of ts)) parted
    (none_second (itself_at op (followed_in ts)) (option_or (need_at op (orders_of ts)) parted) e)

parted_none : (op : Operator) (ts : ExprTrees) → own_at op ts ≡ None
    → parted_at op (keyless_in ts) (all_keys ts) ≡ None
parted_none op ts e =
    let parted = parted_at op (keyless_in ts) (all_keys ts) in
    none_second (need_at op (orders_of ts)) parted
    (none_second (itself_at op (followed_in ts)) (option_or (need_at op (orders_of ts)) parted) e)

-- the work of a parallel over one input
one_split : (collection : ByteList) (workers : ℕ) (by : List SortTerm) (t : ExprTree) → IsPlain t
    → AreWell t → own_fault t ≡ None → is_between 1 worker_limit workers ≡ true
    → own_at (in_parallel collection workers by) (an_expr t no_exprs) ≡ None
    → IsSplit (record { input = t; split = record { workers = workers; sort = by } })
one_split collection workers by t plain well none between own =
    let op = in_parallel collection workers by in
    let ts = an_expr t no_exprs in
    let held = keys_held by (keyless_in ts) (keys_of t) (parted_none op ts own) in
    let keyed = keys_there by (keys_of t) held in record {
      plain = plain;
      unsplit = where_some (keys_of t) (no_parallel t well) keyed;
      keyed = keyed;
      some = above_none workers (at_least 1 worker_limit workers between);
      few = at_most 1 worker_limit workers between;
      held = held;
      ascends = λ docs.
          sort_ascends by (order_of t) (list_of docs t)
          (sort_met (codes "parallel") by (order_of t)
          (none_first (sort_fault (codes "parallel") by (order_of t)) None (need_none op ts own)))
          (holds_of docs t plain well none).1;
    }

-- the work of each parallel, an operator's own or one in its inputs
here_split : (op : Operator) (ts : ExprTrees) → is_well op (length (expr_list ts)) ≡ true
    → are_plain ts ≡ true → AreAllWell ts → own_faults ts ≡ None → own_at op ts ≡ None
    → AllByRecursion IsSplit (parallels_in ts) → AllByRecursion IsSplit (parallels_of (node op ts))
here_split (search p) ts k q w f e below = below
here_split (tuple doc) ts k q w f e below = below
here_split (select items) ts k q w f e below = below
here_split (having condition) ts k q w f e below = below
here_split (sort by) ts k q w f e below = below
here_split (top n by) ts k q w f e below = below
here_split (unique over) ts k q w f e below = below
here_split (merge on) ts k q w f e below = below
here_split (reduce by op) ts k q w f e below = below
here_split (rollup over metrics) ts k q w f e below = below
here_split (inner_join on) ts k q w f e below = below
here_split (left_outer_join on) ts k q w f e below = below
here_split (intersect on) ts k q w f e below = below
here_split (complement on) ts k q w f e below = below
here_split (hash_join on) ts k q w f e below = below
here_split (outer_hash_join on) ts k q w f e below = below
here_split (in_parallel collection workers by) no_exprs k q w f e below = tt
here_split (in_parallel collection workers by) (an_expr t no_exprs) k q w f e below = (
  one_split collection workers by t (and_first (is_plain t) true q) w.0
      (none_first (own_fault t) None f)
      (and_second (1 == 1) (is_between 1 worker_limit workers) k) e,
  tt,
)
here_split (in_parallel collection workers by) (an_expr t (an_expr u ts)) k q w f e below =
    let one =
    eqb-true (length (expr_list (an_expr t (an_expr u ts)))) 1
    (and_first (length (expr_list (an_expr t (an_expr u ts))) == 1)
    (is_between 1 worker_limit workers) k) in
    absurd (omega arith)
here_split (topic p) ts k q w f e below = below
here_split (update dest size) ts k q w f e below = below
here_split (commit dest size) ts k q w f e below = below
here_split (daemon id interval terminate) ts k q w f e below = below

mutual
  -- of an expression
  pub all_split : (t : ExprTree) → IsPlain t → AreWell t → own_fault t ≡ None
      → AllByRecursion IsSplit (parallels_of t)
  all_split (node op ts) plain well none =
      let own = none_first (own_at op ts) (own_faults ts) none in
      let inner = none_second (own_at op ts) (own_faults ts) none in
      let below = and_second (rule_of op).is_plain (are_plain ts) plain in
      here_split op ts well.0 below well.1.1 inner own (inputs_split ts below well.1.1 inner)

  -- and of several
  pub inputs_split : (ts : ExprTrees) → are_plain ts ≡ true → AreAllWell ts → own_faults ts ≡ None
      → AllByRecursion IsSplit (parallels_in ts)
  inputs_split no_exprs plain well none = tt
  inputs_split (an_expr t ts) plain well none =
      each_append IsSplit (parallels_of t) (parallels_in ts)
      (all_split t (and_first (is_plain t) (are_plain ts) plain) well.0
      (none_first (own_fault t) (own_faults ts) none))
      (inputs_split ts (and_second (is_plain t) (are_plain ts) plain) well.1
      (none_second (own_fault t) (own_faults ts) none))
