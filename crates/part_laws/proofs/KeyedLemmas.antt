-- The inputs of an expression with keys have keys, hold no parallel, and are in order in each part.
use Rattle.std.proofs.Common.{◌≡◌, ℕ, suc, ◌==◌, ◌<◌, List, [], ◌∷◌, ◌++◌, Bool, true, false, ◌&&◌}
use Rattle.std.proofs.Common.{Option, Some, None, if◌then◌else◌, length, refl, sym, ◌∙◌, ap, arith}
use Rattle.std.proofs.Common.{IsSome, subst, inl, inr}
use Rattle.std.specs.List.{list_all}
use Rattle.std.proofs.lemmas.Bool.{eqb-true}
use Rattle.tuple_values.specs.Document.{ByteList, Doc}
use Rattle.sort_spec.specs.Terms.{less}
use Rattle.expr_types.specs.ExprTree.{Operator, search, tuple, select, having, sort, top, unique}
use Rattle.expr_types.specs.ExprTree.{merge, reduce, rollup, inner_join, left_outer_join, intersect}
use Rattle.expr_types.specs.ExprTree.{complement, hash_join, outer_hash_join, in_parallel, topic}
use Rattle.expr_types.specs.ExprTree.{update, commit, daemon, first_or, second_or}
use Rattle.expr_types.specs.ExprTree.{ExprTree, node, ExprTrees, no_exprs, an_expr, expr_list}
use Rattle.expr_types.specs.Limits.{is_between, count_limit}
use Rattle.expr_types.specs.Planned.{AreWell, AreAllWell}
use Rattle.expr_types.specs.Rules.{Collections, is_well}
use Rattle.expr_types.specs.Lists.{lists_of}
use Rattle.expr_check.specs.Orders.{IsInOrder, AreInOrder}
use Rattle.expr_check.specs.Partitions.{is_pair, is_kept_pair, same_keys, merged_keys}
use Rattle.expr_check.specs.Parts.{parallels_of, parallels_in}
use Rattle.expr_check.specs.Rules.{keys_given}
use Rattle.expr_check.specs.Walk.{keys_of, all_keys, all_fields, orders_of}
use Rattle.expr_check.specs.declared.order.Order.{Order}
use Rattle.expr_check.specs.declared.order.Order.TheVariants.{Any, By}
use Rattle.expr_check.proofs.AscendLemmas.{ascends_filter, shorter-filter}
use Rattle.expr_check.proofs.NeedLemmas.{and_first, and_second}
use Rattle.source_streams.specs.Parts.{is_of_part, part_of}
use Rattle.part_laws.specs.Parted.{lists_in_part, MayBeParted, MayAllBeParted}
use Rattle.part_laws.proofs.LawLemmas.{parts_commute, whole_lists}
use Rattle.part_laws.proofs.RowLemmas.{AreParts, kept_same, keys_same, paired_of, chosen_of}

-- each of several keys is there
abbrev pub AreSome : List (Option (List ByteList)) → Type 0
AreSome [] = Unit {0}
AreSome (keys ∷ others) = IsSome keys × AreSome others

-- keys that are these are there
is_there : (given : Option (List ByteList)) (keys : List ByteList) → given ≡ Some keys
    → IsSome given
is_there None keys e = absurd (cc)
is_there (Some given) keys e = refl

-- no keys of no input
none_there : (all : List (Option (List ByteList))) → length all ≡ 0 → AreSome all
none_there [] e = tt
none_there (keys ∷ others) e = absurd (omega arith)

-- those of one input, where the first are there
one_there : (all : List (Option (List ByteList))) (keys : List ByteList) → length all ≡ 1
    → first_or None all ≡ Some keys → AreSome all
one_there [] keys one e = tt
one_there (first ∷ []) keys one e = (is_there first keys e, tt)
one_there (first ∷ second ∷ others) keys one e = absurd (omega arith)

-- those of two
two_there : (all : List (Option (List ByteList))) (lefts rights : List ByteList) → length all ≡ 2
    → first_or None all ≡ Some lefts → second_or None all ≡ Some rights → AreSome all
two_there [] lefts rights two l r = tt
two_there (first ∷ []) lefts rights two l r = absurd (omega arith)
two_there (first ∷ second ∷ []) lefts rights two l r =
    (is_there first lefts l, (is_there second rights r, tt))
two_there (first ∷ second ∷ third ∷ others) lefts rights two l r = absurd (omega arith)

-- those that are told to be these
same_there : (keys : List ByteList) (all : List (Option (List ByteList)))
    → list_all (same_keys (Some keys)) all ≡ true → AreSome all
same_there keys [] e = tt
same_there keys (other ∷ others) e = (
  is_there other keys (keys_same keys other (and_first (same_keys (Some keys) other) _ e)),
  same_there keys others (and_second (same_keys (Some keys) other) _ e),
)

-- those of a merge
merged_there : (all : List (Option (List ByteList))) (keys : List ByteList)
    → merged_keys all ≡ Some keys → AreSome all
merged_there [] keys e = absurd (cc)
merged_there (first ∷ others) keys e = go (list_all (same_keys first) others) refl e where
  go : (b : Bool) → list_all (same_keys first) others ≡ b
      → (if b then first else None) ≡ Some keys → AreSome (first ∷ others)
  go true m is = (
    is_there first keys is,
    same_there keys others
        (ap (λ (k : Option (List ByteList)). list_all (same_keys k) others) (sym is) ∙ m),
  )
  go false m is = absurd (cc)

-- the number of inputs, as it is told
told : (many n : ℕ) (all : List (Option (List ByteList))) → length all ≡ many
    → (many == n) ≡ true → length all ≡ n
told many n all long e = long ∙ eqb-true many n e

-- the inputs of an operator with keys have keys
pub inputs_keyed : (op : Operator) (many : ℕ) (fields : List (List ByteList))
    (all : List (Option (List ByteList))) (keys : List ByteList) → is_well op many ≡ true
    → length all ≡ many → keys_given op fields all ≡ Some keys → AreSome all
inputs_keyed (search p) many fields all keys k long e =
    none_there all (told many 0 all long (and_first (many == 0) _ k))
inputs_keyed (tuple doc) many fields all keys k long e = absurd (cc)
inputs_keyed (select items) many fields all keys k long e =
    let c = chosen_of items (first_or None all) keys e in
    one_there all c.keys (told many 1 all long k) c.is
inputs_keyed (having condition) many fields all keys k long e =
    one_there all keys (told many 1 all long k) e
inputs_keyed (sort by) many fields all keys k long e =
    one_there all keys (told many 1 all long k) e
inputs_keyed (top n by) many fields all keys k long e = absurd (cc)
inputs_keyed (unique over) many fields all keys k long e =
    one_there all keys (told many 1 all long k) (kept_same over (first_or None all) keys e).0
inputs_keyed (merge on) many fields all keys k long e = merged_there all keys e
inputs_keyed (reduce by op) many fields all keys k long e =
    one_there all keys
    (told many 1 all long
    (and_first (many == 1) _ (and_first (many == 1 && is_between 1 count_limit op.n) _ k)))
    (kept_same by (first_or None all) keys e).0
inputs_keyed (rollup over metrics) many fields all keys k long e =
    one_there all keys (told many 1 all long (and_first (many == 1) _ k))
    (kept_same over (first_or None all) keys e).0
inputs_keyed (inner_join on) many fields all keys k long e =
    let p = paired_of (is_kept_pair on (second_or [] fields)) all keys e in
    two_there all keys p.rights (told many 2 all long k) p.left p.right
inputs_keyed (left_outer_join on) many fields all keys k long e =
    let p = paired_of (is_kept_pair on (second_or [] fields)) all keys e in
    two_there all keys p.rights (told many 2 all long k) p.left p.right
inputs_keyed (intersect on) many fields all keys k long e =
    let p = paired_of (is_pair on) all keys e in
    two_there all keys p.rights (told many 2 all long k) p.left p.right
inputs_keyed (complement on) many fields all keys k long e =
    let p = paired_of (is_pair on) all keys e in
    two_there all keys p.rights (told many 2 all long k) p.left p.right
inputs_keyed (hash_join on) many fields all keys k long e =
    let p = paired_of (is_kept_pair on (second_or [] fields)) all keys e in
    two_there all keys p.rights (told many 2 all long k) p.left p.right
inputs_keyed (outer_hash_join on) many fields all keys k long e =
    let p = paired_of (is_kept_pair on (second_or [] fields)) all keys e in
    two_there all keys p.rights (told many 2 all long k) p.left p.right
inputs_keyed (in_parallel collection workers by) many fields all keys k long e = absurd (cc)
inputs_keyed (topic p) many fields all keys k long e = absurd (cc)
inputs_keyed (update dest size) many fields all keys k long e = absurd (cc)
inputs_keyed (commit dest size) many fields all keys k long e = absurd (cc)
inputs_keyed (daemon id interval terminate) many fields all keys k long e = absurd (cc)

-- there are as many keys as inputs
keys_width : (ts : ExprTrees) → length (all_keys ts) ≡ length (expr_list ts)
keys_width no_exprs = refl
keys_width (an_expr t ts) = ap suc (keys_width ts)

-- so it is of an expression
pub keyed_below : (op : Operator) (ts : ExprTrees) (keys : List ByteList) → AreWell (node op ts)
    → keys_of (node op ts) ≡ Some keys → AreSome (all_keys ts)
keyed_below op ts keys well e =
    inputs_keyed op (length (expr_list ts)) (all_fields ts) (all_keys ts) keys well.0 (keys_width ts) e

-- no parallel has keys, so nothing of an operator with keys is split
unsplit : (op : Operator) (ts : ExprTrees) (fields : List (List ByteList))
    (all : List (Option (List ByteList))) (keys : List ByteList)
    → keys_given op fields all ≡ Some keys → parallels_of (node op ts) ≡ parallels_in ts
unsplit (search p) ts fields all keys e = refl
unsplit (tuple doc) ts fields all keys e = refl
unsplit (select items) ts fields all keys e = refl
unsplit (having condition) ts fields all keys e = refl
unsplit (sort by) ts fields all keys e = refl
unsplit (top n by) ts fields all keys e = refl
unsplit (unique over) ts fields all keys e = refl
unsplit (merge on) ts fields all keys e = refl
unsplit (reduce by op) ts fields all keys e = refl
unsplit (rollup over metrics) ts fields all keys e = refl
unsplit (inner_join on) ts fields all keys e = refl
unsplit (left_outer_join on) ts fields all keys e = refl
unsplit (intersect on) ts fields all keys e = refl
unsplit (complement on) ts fields all keys e = refl
unsplit (hash_join on) ts fields all keys e = refl
unsplit (outer_hash_join on) ts fields all keys e = refl
unsplit (in_parallel collection workers by) ts fields all keys e = absurd (cc)
unsplit (topic p) ts fields all keys e = refl
unsplit (update dest size) ts fields all keys e = refl
unsplit (commit dest size) ts fields all keys e = refl
unsplit (daemon id interval terminate) ts fields all keys e = refl

-- what is so under known keys is so under keys that are there
pub where_some : {P : Type 0} (given : Option (List ByteList))
    → ((keys : List ByteList) → given ≡ Some keys → P) → IsSome given → P
where_some None f some = absurd (cc)
where_some (Some keys) f some = f keys refl

mutual
  -- an expression with keys holds no parallel
  pub no_parallel : (t : ExprTree) → AreWell t → (keys : List ByteList) → keys_of t ≡ Some keys
      → parallels_of t ≡ []
  no_parallel (node op ts) well keys e =
      unsplit op ts (all_fields ts) (all_keys ts) keys e
      ∙ none_parallel ts well.1.1 (keyed_below op ts keys well e)

  -- nor do several
  none_parallel : (ts : ExprTrees) → AreAllWell ts → AreSome (all_keys ts)
      → parallels_in ts ≡ []
  none_parallel no_exprs well some = refl
  none_parallel (an_expr t ts) well some =
      ap (λ w. w ++ parallels_in ts) (where_some (keys_of t) (no_parallel t well.0) some.0)
      ∙ none_parallel ts well.1 some.1

-- a part of a list in order is in order
part_in_order : (index parts : ℕ) (order : Order) (keys : List ByteList) (docs : List Doc)
    → IsInOrder order docs → IsInOrder order (part_of index parts keys docs)
part_in_order index parts Any keys docs a =
    let h = shorter-filter (is_of_part index parts keys) docs in omega arith
part_in_order index parts (By terms) keys docs a =
    ascends_filter (less terms) (is_of_part index parts keys) docs a

-- so are the parts of several
all_in_order : (index parts : ℕ) (orders : List Order) (all : List (Option (List ByteList)))
    (lists some : List (List Doc)) → AreSome all → AreParts index parts all lists some
    → AreInOrder orders lists → AreInOrder orders some
all_in_order index parts [] [] [] [] there a o = tt
all_in_order index parts [] [] [] (part ∷ rest) there a o = absurd a
all_in_order index parts [] all (docs ∷ lists) some there a o = absurd o
all_in_order index parts [] (keys ∷ others) [] some there a o = absurd a
all_in_order index parts (order ∷ orders) all [] some there a o = absurd o
all_in_order index parts (order ∷ orders) [] (docs ∷ lists) some there a o = absurd a
all_in_order index parts (order ∷ orders) (keys ∷ others) (docs ∷ lists) [] there a o = absurd a
all_in_order index parts (order ∷ orders) (None ∷ others) (docs ∷ lists) (part ∷ rest) there a o =
    absurd (cc)
all_in_order index parts (order ∷ orders) (Some keys ∷ others) (docs ∷ lists) (part ∷ rest) there a o = (
  subst (IsInOrder order) (sym a.0) (part_in_order index parts order keys docs o.0),
  all_in_order index parts orders others lists rest there.1 a.1 o.1,
)

-- each of several may be parted, where each has keys
each_parted : (parts : ℕ) (ts : ExprTrees) → AreSome (all_keys ts) → MayAllBeParted parts ts
each_parted parts no_exprs some = tt
each_parted parts (an_expr t ts) some = (inr some.0, each_parted parts ts some.1)

-- or where there is one part
one_parted : (parts : ℕ) (ts : ExprTrees) → parts ≡ 1 → MayAllBeParted parts ts
one_parted parts no_exprs one = tt
one_parted parts (an_expr t ts) one = (inl one, one_parted parts ts one)

-- so the inputs of what may be parted may be
pub parted_below : (parts : ℕ) (op : Operator) (ts : ExprTrees) → AreWell (node op ts)
    → MayBeParted parts (node op ts) → MayAllBeParted parts ts
parted_below parts op ts well (inl one) = one_parted parts ts one
parted_below parts op ts well (inr some) =
    where_some (keys_of (node op ts))
    (λ keys e. each_parted parts ts (keyed_below op ts keys well e)) some

-- and their lists in a part are in order, where their whole lists are
pub below_in_order : (docs : Collections) (index parts : ℕ) (op : Operator) (ts : ExprTrees)
    → AreWell (node op ts) → index < parts → MayBeParted parts (node op ts)
    → AreInOrder (orders_of ts) (lists_of docs ts)
    → AreInOrder (orders_of ts) (lists_in_part docs index parts ts)
below_in_order docs index parts op ts well within (inl one) o =
    let first : index ≡ 0 = omega arith in
    subst (AreInOrder (orders_of ts))
    (sym (ap (λ (n : ℕ). lists_in_part docs n parts ts) first
    ∙ ap (λ (n : ℕ). lists_in_part docs 0 n ts) one
    ∙ whole_lists docs ts)) o
below_in_order docs index parts op ts well within (inr some) o =
    where_some (keys_of (node op ts))
    (λ keys e. all_in_order index parts (orders_of ts) (all_keys ts) (lists_of docs ts)
    (lists_in_part docs index parts ts) (keyed_below op ts keys well e)
    (parts_commute docs index parts ts well.1.1) o) some
