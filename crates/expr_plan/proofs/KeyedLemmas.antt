-- A call that has no fault has one input under each key for one.
use Rattle.std.proofs.Common.{◌≡◌, ℕ, ◌+◌, List, [], ◌∷◌, ◌++◌, Bool, true, false, not, ◌&&◌, ◌||◌}
use Rattle.std.proofs.Common.{cond, Option, Some, None, codes, refl, ap, sym, ◌∙◌}
use Rattle.std.proofs.Common.{subst, append-nil, arith}
use Rattle.std.specs.Prelude.{is_some}
use Rattle.std.specs.List.{AllByRecursion, cons_option, find}
use Rattle.std.specs.Str.{bytes_eq}
use Rattle.std.proofs.lemmas.Slice.Eq.{bytes_eq-Decides}
use Rattle.tuple_values.specs.Document.{ByteList, is_named}
use Rattle.expr_reader.specs.Tree.{CallTree, ArgTree, plain, named, named_call, sub, renamed}
use Rattle.expr_reader.specs.Tree.{ArgTrees, no_args, an_arg}
use Rattle.expr_plan.specs.ArgumentFaults.{bad_param, fault_if, operand_after, name_at}
use Rattle.expr_plan.specs.ArgumentFaults.{names_after, faults_at, arg_faults, word_faults}
use Rattle.expr_plan.specs.ArgumentFaults.{call_faults}
use Rattle.expr_plan.specs.Functions.{shape_of, operands, helpers_of, input_key, required}
use Rattle.expr_plan.specs.Helpers.{is_helper, is_helper_word, helper_name, are_items, is_input}
use Rattle.expr_plan.specs.Items.{renamed_item}
use Rattle.expr_plan.specs.Walk.{inputs_found}
use Rattle.expr_plan.specs.Words.{called}
use Rattle.expr_plan.specs.declared.fault.PlanFault.{PlanFault}
use Rattle.expr_plan.specs.declared.row.Function.{Function}
use Rattle.expr_plan.specs.declared.row.Function.TheVariants.{Search, Tuple, Select, Having}
use Rattle.expr_plan.specs.declared.row.Function.TheVariants.{Sort, Top, Unique, Merge}
use Rattle.expr_plan.specs.declared.row.Function.TheVariants.{Reduce, Rollup, InnerJoin}
use Rattle.expr_plan.specs.declared.row.Function.TheVariants.{LeftOuterJoin, Intersect}
use Rattle.expr_plan.specs.declared.row.Function.TheVariants.{Complement, HashJoin}
use Rattle.expr_plan.specs.declared.row.Function.TheVariants.{OuterHashJoin, Parallel, Topic}
use Rattle.expr_plan.specs.declared.row.Function.TheVariants.{Update, Commit, Daemon}
use Rattle.expr_plan.specs.declared.row.Helpers.TheVariants as helpers
use Rattle.expr_plan.specs.declared.row.Place.TheVariants.{UnderKey}
use Rattle.expr_plan.specs.declared.row.Shape.TheVariants as shape
use Rattle.expr_plan.proofs.ReadLemmas.{IsOther, operands_apart, no_key, items_are}

-- the key for an input, if there is one, has to be given, and what stands under it is an input
abbrev pub IsKeyed : Function → Option ByteList → Type 0
IsKeyed f None = Unit {0}
IsKeyed f (Some key) =
    (shape_of f key ≡ Some shape.Input) × (is_named key (required f) ≡ true)

-- so it is of each function
pub keyed_known : (f : Function) → IsKeyed f (input_key f)
keyed_known Search = tt
keyed_known Tuple = tt
keyed_known Select = tt
keyed_known Having = tt
keyed_known Sort = tt
keyed_known Top = tt
keyed_known Unique = tt
keyed_known Merge = tt
keyed_known Reduce = tt
keyed_known Rollup = tt
keyed_known InnerJoin = tt
keyed_known LeftOuterJoin = tt
keyed_known Intersect = tt
keyed_known Complement = tt
keyed_known HashJoin = (refl, refl)
keyed_known OuterHashJoin = (refl, refl)
keyed_known Parallel = tt
keyed_known Topic = tt
keyed_known Update = tt
keyed_known Commit = tt
keyed_known Daemon = tt

-- one, where the test says so
abbrev pub one_if : Bool → ℕ
one_if b = cond b 1 0

-- neither of two lists of faults has one
no_first : (xs ys : List PlanFault) → xs ++ ys ≡ [] → xs ≡ []
no_first [] ys e = refl
no_first (x ∷ xs) ys e = absurd (cc)

no_second : (xs ys : List PlanFault) → xs ++ ys ≡ [] → ys ≡ []
no_second [] ys e = e
no_second (x ∷ xs) ys e = absurd (cc)

-- there is no fault only where the test doesn't say so
not_if : (b : Bool) (fault : PlanFault) → fault_if b fault ≡ [] → b ≡ false
not_if true fault e = absurd (cc)
not_if false fault e = refl

-- a name that isn't the key adds none
named_same : (key : ByteList) (names : List ByteList) (name : ByteList) → bytes_eq name key ≡ false
    → is_named key (names ++ name ∷ []) ≡ is_named key names
named_same key [] name e = rw e refl
named_same key (first ∷ names) name e =
    ap (λ b. bytes_eq first key || b) (named_same key names name e)

-- the key itself does
named_more : (key : ByteList) (names : List ByteList) (name : ByteList) → bytes_eq name key ≡ true
    → is_named key (names ++ name ∷ []) ≡ true
named_more key [] name e = rw e refl
named_more key (first ∷ names) name e = go (bytes_eq first key) (named_more key names name e)
  where
    go : (b : Bool) → is_named key (names ++ name ∷ []) ≡ true
        → (b || is_named key (names ++ name ∷ [])) ≡ true
    go true later = refl
    go false later = later

-- a fact of each is one of what is found
found_one : (P : ByteList → Type 0) (test : ByteList → Bool) (names : List ByteList)
    (name : ByteList) → AllByRecursion P names → find test names ≡ Some name → P name
found_one P test [] name all e = absurd (cc)
found_one P test (first ∷ names) name all e =
    go (test first) e (found_one P test names name all.1)
  where
    go : (b : Bool) → cond b (Some first) (find test names) ≡ Some name
        → (find test names ≡ Some name → P name) → P name
    go true e later = let same : first ≡ name = cc in subst P same all.0
    go false e later = later e

module _ (f : Function) (key : ByteList) (made : List ByteList) (keyed : input_key f ≡ Some key)
    (known : shape_of f key ≡ Some shape.Input) where
  -- the names with one that isn't the key hold it as before
  same_at : (names : List ByteList) (o : Option ByteList)
      → ((name : ByteList) → o ≡ Some name → bytes_eq name key ≡ false)
      → one_if (is_named key names) + one_if false ≡ one_if (is_named key (names ++ cons_option o []))
  same_at names None other =
      let same = ap (is_named key) (append-nil names) in omega (arith, ap one_if same)
  same_at names (Some name) other =
      let same = named_same key names name (other name refl) in omega (arith, ap one_if same)

  -- what has no shape isn't the key
  other_shape : (name : ByteList) → shape_of f name ≡ None → bytes_eq name key ≡ false
  other_shape name none = go (bytes_eq name key) refl
    where
      go : (b : Bool) → bytes_eq name key ≡ b → b ≡ false
      go true e =
          let clash : None ≡ Some shape.Input =
          sym none ∙ ap (shape_of f) ((bytes_eq-Decides name key).0 e) ∙ known in
          cc
      go false e = refl

  -- nor is what helpers are told as
  other_helper : (helpers_of f ≡ helpers.Nothing → ⊥) → bytes_eq (helper_name f) key ≡ false
  other_helper some = go (bytes_eq (helper_name f) key) refl
    where
      go : (b : Bool) → bytes_eq (helper_name f) key ≡ b → b ≡ false
      go true e =
          let same : key ≡ helper_name f = sym ((bytes_eq-Decides (helper_name f) key).0 e) in
          absurd
          (no_key f (helpers_of f) key shape.Input refl some
          ((bytes_eq-Decides key (helper_name f)).1 same) known)
      go false e = refl

  -- nor an operand
  other_operand : (names : List ByteList) (name : ByteList) → operand_after f names ≡ Some name
      → bytes_eq name key ≡ false
  other_operand names name e =
      other_shape name
      (found_one (IsOther f) (λ n. not (is_named n names)) (operands f) name (operands_apart f) e).0

  -- where helpers are items there are some
  some_items : are_items (helpers_of f) ≡ true → helpers_of f ≡ helpers.Nothing → ⊥
  some_items items none =
      let clash : helpers.Items ≡ helpers.Nothing = sym (items_are (helpers_of f) items) ∙ none in cc

  -- the name of a plain word isn't the key
  plain_at : (names : List ByteList) (b : Bool) → are_items (helpers_of f) ≡ b → (name : ByteList)
      → cond b (Some (helper_name f)) (operand_after f names) ≡ Some name
      → bytes_eq name key ≡ false
  plain_at names true items name e =
      let same : helper_name f ≡ name = cc in
      subst (λ (n : ByteList). bytes_eq n key ≡ false) same (other_helper (some_items items))
  plain_at names false items name e = other_operand names name e

  -- nor is that of a call by itself
  sub_at : (c : CallTree) (b : Bool) → is_helper f c ≡ b → (name : ByteList)
      → cond b (Some (helper_name f)) None ≡ Some name → bytes_eq name key ≡ false
  sub_at c true helps name e =
      let same : helper_name f ≡ name = cc in
      subst (λ (n : ByteList). bytes_eq n key ≡ false) same
      (other_helper
      (λ none.
      let other : is_helper f c ≡ false = ap (λ kind. is_helper_word kind (called c)) none in cc))
  sub_at c false helps name e = absurd (cc)

  -- a call with a new name and no fault is an item
  renamed_items : (c : CallTree) (to : ByteList) (b : Bool) → are_items (helpers_of f) ≡ b
      → (d : Bool)
      → cond (b && d) (fault_if (not (is_some (renamed_item c to))) (bad_param f (helper_name f)))
      (bad_param f (codes "operand") ∷ []) ≡ []
      → are_items (helpers_of f) ≡ true
  renamed_items c to true items d e = items
  renamed_items c to false items d e = absurd (cc)

  -- a word under the key is a fault
  word_at : (names : List ByteList) (name text : ByteList) (quoted : Bool)
      → word_faults f made names name text quoted (shape_of f name) ≡ []
      → bytes_eq name key ≡ false
  word_at names name text quoted none = go (bytes_eq name key) refl
    where
      go : (b : Bool) → bytes_eq name key ≡ b → b ≡ false
      go true e =
          let here : shape_of f name ≡ Some shape.Input =
          ap (shape_of f) ((bytes_eq-Decides name key).0 e) ∙ known in
          let faults = sym (ap (word_faults f made names name text quoted) here) ∙ none in
          let bad : bad_param f name ∷ [] ≡ [] =
          no_second (fault_if (is_named name names) (bad_param f name)) (bad_param f name ∷ [])
          faults in
          cc
      go false e = refl

  -- a call under the key stands there for the first time
  call_at : (names : List ByteList) (name : ByteList)
      → call_faults f names name (shape_of f name) ≡ []
      → one_if (is_named key names) + one_if (bytes_eq key name)
      ≡ one_if (is_named key (names ++ name ∷ []))
  call_at names name none = go (bytes_eq name key) refl
    where
      go : (b : Bool) → bytes_eq name key ≡ b
          → one_if (is_named key names) + one_if (bytes_eq key name)
          ≡ one_if (is_named key (names ++ name ∷ []))
      go true e =
          let same : name ≡ key = (bytes_eq-Decides name key).0 e in
          let here : shape_of f name ≡ Some shape.Input = ap (shape_of f) same ∙ known in
          let faults = sym (ap (call_faults f names name) here) ∙ none in
          let first : is_named name names ≡ false =
          not_if (is_named name names) (bad_param f name)
          (no_first (fault_if (is_named name names) (bad_param f name)) [] faults) in
          let none_yet : is_named key names ≡ false =
          subst (λ (n : ByteList). is_named n names ≡ false) same first in
          let back : bytes_eq key name ≡ true = (bytes_eq-Decides key name).1 (sym same) in
          let now = named_more key names name e in
          rw (none_yet, back, now) refl
      go false e =
          let apart : bytes_eq key name ≡ false = other_way in
          let same = named_same key names name e in
          rw (apart, same) (omega arith)
        where
          other_way : bytes_eq key name ≡ false
          other_way = back (bytes_eq key name) refl
            where
              back : (b : Bool) → bytes_eq key name ≡ b → b ≡ false
              back true t =
                  let is : bytes_eq name key ≡ true =
                  (bytes_eq-Decides name key).1 (sym ((bytes_eq-Decides key name).0 t)) in
                  cc
              back false t = refl

  -- an argument without a fault adds the key where it is an input under it
  arg_at : (names : List ByteList) (a : ArgTree) → faults_at f made names a ≡ []
      → one_if (is_named key names) + one_if (is_input UnderKey f a)
      ≡ one_if (is_named key (names ++ cons_option (name_at f names a) []))
  arg_at names (plain text quoted) none =
      same_at names (name_at f names (plain text quoted))
      (plain_at names (are_items (helpers_of f)) refl)
  arg_at names (named name text quoted) none =
      same_at names (Some name)
      (λ other e.
      let same : name ≡ other = cc in
      subst (λ (n : ByteList). bytes_eq n key ≡ false) same (word_at names name text quoted none))
  arg_at names (named_call name c) none =
      rw keyed (call_at names name none)
  arg_at names (sub c) none =
      same_at names (name_at f names (sub c)) (sub_at c (is_helper f c) refl)
  arg_at names (renamed c to) none =
      same_at names (Some (helper_name f))
      (λ other e.
      let same : helper_name f ≡ other = cc in
      let items = renamed_items c to (are_items (helpers_of f)) refl (is_helper f c) none in
      subst (λ (n : ByteList). bytes_eq n key ≡ false) same (other_helper (some_items items)))

  -- so do all of them
  pub keyed_found : (names : List ByteList) (args : ArgTrees) → arg_faults f made names args ≡ []
      → one_if (is_named key names) + inputs_found UnderKey f args
      ≡ one_if (is_named key (names_after f names args))
  keyed_found names no_args none = omega arith
  keyed_found names (an_arg a args) none =
      let after = names ++ cons_option (name_at f names a) [] in
      let here =
      arg_at names a (no_first (faults_at f made names a) (arg_faults f made after args) none) in
      let later =
      keyed_found after args
      (no_second (faults_at f made names a) (arg_faults f made after args) none) in
      omega arith

-- without a key for an input no argument is one
pub none_found : (f : Function) (args : ArgTrees) → input_key f ≡ None
    → inputs_found UnderKey f args ≡ 0
none_found f no_args none = refl
none_found f (an_arg a args) none = here a (none_found f args none)
  where
    here : (a : ArgTree) → inputs_found UnderKey f args ≡ 0
        → one_if (is_input UnderKey f a) + inputs_found UnderKey f args ≡ 0
    here (plain text quoted) later = omega arith
    here (named key text quoted) later = omega arith
    here (named_call key c) later = rw none (omega arith)
    here (sub c) later = omega arith
    here (renamed c to) later = omega arith
