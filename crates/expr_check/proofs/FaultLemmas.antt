-- An expression without a fault: its operators have none, its collections are there, and with plain
-- roots it only reads.
use Rattle.std.proofs.Common.{◌≡◌, List, [], ◌∷◌, ◌++◌, Bool, true, false, ◌&&◌, Option, Some, None}
use Rattle.std.proofs.Common.{if◌then◌else◌, refl}
use Rattle.std.specs.Option.{option_or}
use Rattle.std.specs.List.{list_all}
use Rattle.tuple_values.specs.Document.{ByteList, is_named}
use Rattle.sort_spec.specs.declared.term.SortTerm.{SortTerm}
use Rattle.expr_types.specs.ExprTree.{Operator, search, tuple, select, having, sort, top, unique}
use Rattle.expr_types.specs.ExprTree.{merge, reduce, rollup, inner_join, left_outer_join, intersect}
use Rattle.expr_types.specs.ExprTree.{complement, hash_join, outer_hash_join, in_parallel, topic}
use Rattle.expr_types.specs.ExprTree.{update, commit, daemon}
use Rattle.expr_types.specs.ExprTree.{ExprTree, node, ExprTrees, no_exprs, an_expr}
use Rattle.expr_types.specs.Names.{function_name}
use Rattle.expr_types.specs.Plain.{is_plain, are_plain}
use Rattle.expr_types.specs.Rules.{rule_of}
use Rattle.expr_check.specs.Held.{IsFaultless}
use Rattle.expr_check.specs.Needs.{meets_sort, meets_names}
use Rattle.expr_check.specs.Faults.{field_outside, field_fault, order_fault, names_fault, sort_fault}
use Rattle.expr_check.specs.Faults.{names_text, sort_text, place_fault, first_unknown, unknown_fault}
use Rattle.expr_check.specs.Rules.{named_by, stands, place_in}
use Rattle.expr_check.specs.Walk.{own_at, fault_at, fault_where, faults_where, own_fault, own_faults}
use Rattle.expr_check.specs.Walk.{named_in, all_named}
use Rattle.expr_check.proofs.NeedLemmas.{and_first, and_second}
use Rattle.expr_check.specs.declared.order.Order.{Order}
use Rattle.expr_check.specs.declared.roots.Place.{Place}
use Rattle.expr_check.specs.declared.roots.Roots.{Roots}
use Rattle.expr_check.specs.declared.roots.Roots.TheVariants.{Plain}

-- neither of two is there
pub none_first : {T : Type 0} (a b : Option T) → option_or a b ≡ None → a ≡ None
none_first None b e = refl
none_first (Some x) b e = absurd (cc)

pub none_second : {T : Type 0} (a b : Option T) → option_or a b ≡ None → b ≡ None
none_second None b e = e
none_second (Some x) b e = absurd (cc)

-- neither of two that are not there
pub none_both : {T : Type 0} (a b : Option T) → a ≡ None → b ≡ None → option_or a b ≡ None
none_both a b e f = rw (e, f) refl

-- both of two tests
pub both : (a b : Bool) → a ≡ true → b ≡ true → (a && b) ≡ true
both a b e f = rw (e, f) refl

-- a function without a fault has the order that it needs
met_by : (function needed : ByteList) (is : Bool) (order : Order)
    → order_fault function needed is order ≡ None → is ≡ true
met_by function needed true order e = refl
met_by function needed false order e = absurd (cc)

-- by names
pub names_met : (function : ByteList) (names : List ByteList) (order : Order)
    → names_fault function names order ≡ None → meets_names names order ≡ true
names_met function names order e =
    met_by function (names_text names) (meets_names names order) order e

-- by a sort
pub sort_met : (function : ByteList) (on : List SortTerm) (order : Order)
    → sort_fault function on order ≡ None → meets_sort on order ≡ true
sort_met function on order e =
    met_by function (sort_text on) (meets_sort on order) order e

-- the fields of a search's sort are in `fl`
fields_met_by : (fl : List ByteList) (term : SortTerm) (terms : List SortTerm) (named : Bool)
    → (field_fault (field_outside terms fl) ≡ None
    → list_all (λ t. is_named t.field fl) terms ≡ true)
    → field_fault (if named then field_outside terms fl else Some term.field) ≡ None
    → (named && list_all (λ t. is_named t.field fl) terms) ≡ true
fields_met_by fl term terms true h e = h e
fields_met_by fl term terms false h e = absurd (cc)

-- for all terms
pub fields_met : (fl : List ByteList) (terms : List SortTerm)
    → field_fault (field_outside terms fl) ≡ None
    → list_all (λ t. is_named t.field fl) terms ≡ true
fields_met fl [] e = refl
fields_met fl (term ∷ terms) e =
    fields_met_by fl term terms (is_named term.field fl) (fields_met fl terms) e

-- an operator without a fault at its place has none over its inputs
own_met : (roots : Roots) (place : Place) (is_there : ByteList → Bool) (op : Operator)
    (inputs : ExprTrees) → fault_at roots place is_there op inputs ≡ None
    → own_at op inputs ≡ None
own_met roots place is_there op inputs e =
    let unknown = unknown_fault (first_unknown is_there (named_by op)) in
    none_second unknown (own_at op inputs)
    (none_second (place_fault (function_name op) (stands roots place op))
    (option_or unknown (own_at op inputs)) e)

mutual
  -- so has an expression
  pub fault_where-own : (roots : Roots) (place : Place) (is_there : ByteList → Bool) (t : ExprTree)
      → fault_where roots place is_there t ≡ None → own_fault t ≡ None
  fault_where-own roots place is_there (node op inputs) e =
      let here = fault_at roots place is_there op inputs in
      let below = faults_where roots (place_in op place) is_there inputs in
      none_both (own_at op inputs) (own_faults inputs)
      (own_met roots place is_there op inputs (none_first here below e))
      (faults_where-own roots (place_in op place) is_there inputs (none_second here below e))

  -- and so have inputs
  pub faults_where-own : (roots : Roots) (place : Place) (is_there : ByteList → Bool)
      (ts : ExprTrees) → faults_where roots place is_there ts ≡ None → own_faults ts ≡ None
  faults_where-own roots place is_there no_exprs e = refl
  faults_where-own roots place is_there (an_expr t ts) e =
      let here = fault_where roots place is_there t in
      let rest = faults_where roots place is_there ts in
      none_both (own_fault t) (own_faults ts)
      (fault_where-own roots place is_there t (none_first here rest e))
      (faults_where-own roots place is_there ts (none_second here rest e))

-- what the check finds no fault of has none over its inputs
pub faultless-own : (t : ExprTree) → IsFaultless t → own_fault t ≡ None
faultless-own t f = fault_where-own f.roots f.place f.is_there t f.none

-- a test of two lists is that of both
all-append : {X : Type 0} (p : X → Bool) (xs ys : List X) → list_all p xs ≡ true
    → list_all p ys ≡ true → list_all p (xs ++ ys) ≡ true
all-append p [] ys e f = f
all-append p (x ∷ xs) ys e f =
    both (p x) (list_all p (xs ++ ys)) (and_first (p x) (list_all p xs) e)
    (all-append p xs ys (and_second (p x) (list_all p xs) e) f)

-- where one of several names is there or not, none is unknown only where it is there
known_by : (is_there : ByteList → Bool) (name : ByteList) (names : List ByteList) (known : Bool)
    → (unknown_fault (first_unknown is_there names) ≡ None → list_all is_there names ≡ true)
    → unknown_fault (if known then first_unknown is_there names else Some name) ≡ None
    → (known && list_all is_there names) ≡ true
known_by is_there name names true h e = h e
known_by is_there name names false h e = absurd (cc)

-- where none of the names is unknown all are there
all_known : (is_there : ByteList → Bool) (names : List ByteList)
    → unknown_fault (first_unknown is_there names) ≡ None → list_all is_there names ≡ true
all_known is_there [] e = refl
all_known is_there (name ∷ names) e =
    known_by is_there name names (is_there name) (all_known is_there names) e

-- an operator without a fault has the collections that it names
at_there : (roots : Roots) (place : Place) (is_there : ByteList → Bool) (op : Operator)
    (inputs : ExprTrees) → fault_at roots place is_there op inputs ≡ None
    → list_all is_there (named_by op) ≡ true
at_there roots place is_there op inputs e =
    let unknown = unknown_fault (first_unknown is_there (named_by op)) in
    all_known is_there (named_by op)
    (none_first unknown (own_at op inputs)
    (none_second (place_fault (function_name op) (stands roots place op))
    (option_or unknown (own_at op inputs)) e))

mutual
  -- so has an expression
  pub fault_where-there : (roots : Roots) (place : Place) (is_there : ByteList → Bool)
      (t : ExprTree) → fault_where roots place is_there t ≡ None
      → list_all is_there (named_in t) ≡ true
  fault_where-there roots place is_there (node op inputs) e =
      let here = fault_at roots place is_there op inputs in
      let below = faults_where roots (place_in op place) is_there inputs in
      all-append is_there (named_by op) (all_named inputs)
      (at_there roots place is_there op inputs (none_first here below e))
      (faults_where-there roots (place_in op place) is_there inputs (none_second here below e))

  -- and so have inputs
  pub faults_where-there : (roots : Roots) (place : Place) (is_there : ByteList → Bool)
      (ts : ExprTrees) → faults_where roots place is_there ts ≡ None
      → list_all is_there (all_named ts) ≡ true
  faults_where-there roots place is_there no_exprs e = refl
  faults_where-there roots place is_there (an_expr t ts) e =
      let here = fault_where roots place is_there t in
      let rest = faults_where roots place is_there ts in
      all-append is_there (named_in t) (all_named ts)
      (fault_where-there roots place is_there t (none_first here rest e))
      (faults_where-there roots place is_there ts (none_second here rest e))

-- a function that may stand at its place has no fault there
stands_by : (function : ByteList) (is : Bool) → place_fault function is ≡ None → is ≡ true
stands_by function true e = refl
stands_by function false e = absurd (cc)

-- an operator without a fault may stand at its place
pub stands_at : (roots : Roots) (place : Place) (is_there : ByteList → Bool) (op : Operator)
    (inputs : ExprTrees) → fault_at roots place is_there op inputs ≡ None
    → stands roots place op ≡ true
stands_at roots place is_there op inputs e =
    stands_by (function_name op) (stands roots place op)
    (none_first (place_fault (function_name op) (stands roots place op))
    (option_or (unknown_fault (first_unknown is_there (named_by op))) (own_at op inputs)) e)

-- what may stand with plain roots only reads
plain_stands : (place : Place) (op : Operator) → stands Plain place op ≡ true
    → (rule_of op).is_plain ≡ true
plain_stands place (search p) e = refl
plain_stands place (tuple fields) e = refl
plain_stands place (select items) e = refl
plain_stands place (having condition) e = refl
plain_stands place (sort by) e = refl
plain_stands place (top n by) e = refl
plain_stands place (unique over) e = refl
plain_stands place (merge on) e = refl
plain_stands place (reduce by op) e = refl
plain_stands place (rollup over metrics) e = refl
plain_stands place (inner_join on) e = refl
plain_stands place (left_outer_join on) e = refl
plain_stands place (intersect on) e = refl
plain_stands place (complement on) e = refl
plain_stands place (hash_join on) e = refl
plain_stands place (outer_hash_join on) e = refl
plain_stands place (in_parallel collection workers by) e = refl
plain_stands place (topic p) e = absurd (cc)
plain_stands place (update dest size) e = absurd (cc)
plain_stands place (commit dest size) e = absurd (cc)
plain_stands place (daemon id interval terminate) e = absurd (cc)

mutual
  -- so what has no fault with plain roots only reads
  pub fault_where-plain : (place : Place) (is_there : ByteList → Bool) (t : ExprTree)
      → fault_where Plain place is_there t ≡ None → is_plain t ≡ true
  fault_where-plain place is_there (node op inputs) e =
      let here = fault_at Plain place is_there op inputs in
      let below = faults_where Plain (place_in op place) is_there inputs in
      both (rule_of op).is_plain (are_plain inputs)
      (plain_stands place op (stands_at Plain place is_there op inputs (none_first here below e)))
      (faults_where-plain (place_in op place) is_there inputs (none_second here below e))

  -- and so do inputs
  pub faults_where-plain : (place : Place) (is_there : ByteList → Bool) (ts : ExprTrees)
      → faults_where Plain place is_there ts ≡ None → are_plain ts ≡ true
  faults_where-plain place is_there no_exprs e = refl
  faults_where-plain place is_there (an_expr t ts) e =
      let here = fault_where Plain place is_there t in
      let rest = faults_where Plain place is_there ts in
      both (is_plain t) (are_plain ts) (fault_where-plain place is_there t (none_first here rest e))
      (faults_where-plain place is_there ts (none_second here rest e))
