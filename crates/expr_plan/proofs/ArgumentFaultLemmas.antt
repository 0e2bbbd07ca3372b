-- What is told of arguments is the first of their faults.
use Rattle.std.proofs.Common.{◌≡◌, List, [], ◌∷◌, ◌++◌, map, Bool, true, false, not, ◌&&◌}
use Rattle.std.proofs.Common.{◌||◌, cond, Option, Some, None, option_map, Result, Ok, Err, codes}
use Rattle.std.proofs.Common.{refl, ap, sym, ◌∙◌, subst, append-nil}
use Rattle.std.specs.Prelude.{is_some}
use Rattle.std.specs.List.{cons_option, find}
use Rattle.std.specs.Str.{bytes_eq}
use Rattle.std.proofs.lemmas.List.{map-append}
use Rattle.tuple_values.specs.Document.{ByteList, is_named}
use Rattle.expr_reader.specs.Tree.{CallTree, ArgTree, plain, named, named_call, sub, renamed}
use Rattle.expr_reader.specs.Tree.{ArgTrees, no_args, an_arg}
use Rattle.expr_types.specs.ConditionTree.{ConditionTree}
use Rattle.expr_plan.specs.Given.{Walked}
use Rattle.expr_plan.specs.Arguments.{with_param, with_operand, with_read}
use Rattle.expr_plan.specs.Arguments.{with_item, with_plain, with_named, with_word, may_be_call}
use Rattle.expr_plan.specs.Arguments.{with_call, with_condition, with_helper, with_sub}
use Rattle.expr_plan.specs.Arguments.{with_renamed, with_arg, with_args}
use Rattle.expr_plan.specs.Law.{first_fault}
use Rattle.expr_plan.specs.ArgumentFaults.{bad_param, fault_if, operand_after, name_at}
use Rattle.expr_plan.specs.ArgumentFaults.{names_after, plain_faults, value_faults, word_faults}
use Rattle.expr_plan.specs.ArgumentFaults.{call_faults, can_be_read, helper_faults, renamed_faults}
use Rattle.expr_plan.specs.ArgumentFaults.{faults_at, arg_faults}
use Rattle.expr_plan.specs.ConditionReading.{condition_of}
use Rattle.expr_plan.specs.Fault.{and_then}
use Rattle.expr_plan.specs.Functions.{shape_of, operands, helpers_of}
use Rattle.expr_plan.specs.Functions.{next_operand, helper_word}
use Rattle.expr_plan.specs.Given.{is_given, first_absent}
use Rattle.expr_plan.specs.GroupReading.{group_of_call}
use Rattle.expr_plan.specs.Helpers.{is_helper, is_helper_word, helper_name, are_items, is_single}
use Rattle.expr_plan.specs.Helpers.{names_any}
use Rattle.expr_plan.specs.Items.{field_item, item_of_call, metric_of_call, renamed_item}
use Rattle.expr_plan.specs.Shapes.{bad, read_as}
use Rattle.expr_plan.specs.Words.{called}
use Rattle.expr_plan.specs.declared.fault.PlanFault.{PlanFault}
use Rattle.expr_plan.specs.declared.row.Function.{Function}
use Rattle.expr_plan.specs.declared.param.Given.{Given}
use Rattle.expr_plan.specs.declared.param.Param.{Param}
use Rattle.expr_plan.specs.declared.param.Param.TheVariants as param
use Rattle.expr_plan.specs.declared.row.Helpers.{Helpers}
use Rattle.expr_plan.specs.declared.row.Helpers.TheVariants as helpers
use Rattle.expr_plan.specs.declared.row.Shape.{Shape}
use Rattle.expr_plan.proofs.ShapeLemmas.{fine, fine_same, and_then-ok}

-- the fault that is told, if there is one
abbrev pub told : {X : Type 0} → Result X PlanFault → Option PlanFault
told (Ok x) = None
told (Err fault) = Some fault

-- what is told of two parts is the first fault of the first, or else of the second
pub told_then : {X Y : Type 0} (r : Result X PlanFault) (next : X → Result Y PlanFault)
    (faults more : List PlanFault) → told r ≡ first_fault faults
    → ((x : X) → r ≡ Ok x → told (next x) ≡ first_fault more)
    → told (and_then r next) ≡ first_fault (faults ++ more)
told_then (Ok x) next [] more e later = later x refl
told_then (Ok x) next (fault ∷ faults) more e later = absurd (cc)
told_then (Err f) next [] more e later = absurd (cc)
told_then (Err f) next (fault ∷ faults) more e later = e

-- the names under which parameters are kept
abbrev pub names_in : List Given → List ByteList
names_in given = map (λ g. g.name) given

-- a name is given where it is among them
pub given_named : (name : ByteList) (given : List Given)
    → is_given name given ≡ is_named name (names_in given)
given_named name [] = refl
given_named name (g ∷ given) = ap (λ b. bytes_eq g.name name || b) (given_named name given)

-- the first name that isn't given is the first that isn't among them
absent_found : (names : List ByteList) (given : List Given)
    → first_absent names given ≡ find (λ name. not (is_named name (names_in given))) names
absent_found [] given = refl
absent_found (name ∷ names) given =
    rw (given_named name given) (go (is_named name (names_in given)) (absent_found names given))
  where
    go : (b : Bool)
        → first_absent names given ≡ find (λ name. not (is_named name (names_in given))) names
        → cond b (first_absent names given) (Some name)
        ≡ cond (not b) (Some name)
        (find (λ name. not (is_named name (names_in given))) names)
    go true later = later
    go false later = refl

-- a step tells the first of these faults, and where it has none the names are then these
abbrev pub Tells : Result Walked PlanFault → List PlanFault → List ByteList → Type 0
Tells r faults names =
    (told r ≡ first_fault faults)
    × ((more : Walked) → r ≡ Ok more → names_in more.given ≡ names)

-- a fault
bad_tells : (f : Function) (name : ByteList) (faults : List PlanFault) (names : List ByteList)
    → Tells (bad f name) (bad_param f name ∷ faults) names
bad_tells f name faults names = (refl, λ more e. absurd (cc))

-- the names with one more
names_more : (w : Walked) (name : ByteList) (p : Param)
    → names_in (with_param w name p).given ≡ names_in w.given ++ name ∷ []
names_more w name p = map-append (λ g. g.name) w.given (record { name = name; param = p } ∷ [])

-- one parameter more
param_tells : (w : Walked) (name : ByteList) (p : Param)
    → Tells (Ok (with_param w name p)) [] (names_in w.given ++ name ∷ [])
param_tells w name p = (
  refl,
  λ more e.
      ap (λ (x : Walked). names_in x.given) (sym (fine_same (with_param w name p) more e))
      ∙ names_more w name p,
)

-- nothing more
same_tells : (w : Walked) → Tells (Ok w) [] (names_in w.given)
same_tells w = (
  refl,
  λ more e. ap (λ (x : Walked). names_in x.given) (sym (fine_same w more e)),
)

-- what was read of a helper
read_tells : (f : Function) (w : Walked) {X : Type 0} (make : X → Param) (o : Option X)
    → Tells (with_read f w (option_map make o))
    (fault_if (not (is_some o)) (bad_param f (helper_name f)))
    (names_in w.given ++ helper_name f ∷ [])
read_tells f w make None = bad_tells f (helper_name f) [] _
read_tells f w make (Some x) = param_tells w (helper_name f) (make x)

-- an operand
operand_tells : (f : Function) (w : Walked) (text : ByteList) (o : Option ByteList)
    → Tells (with_operand f w text o)
    (fault_if (not (is_some o)) (bad_param f (codes "operand")))
    (names_in w.given ++ cons_option o [])
operand_tells f w text None = bad_tells f (codes "operand") [] _
operand_tells f w text (Some name) = param_tells w name (param.Plain text)

-- a plain word
plain_tells : (f : Function) (w : Walked) (text : ByteList) (quoted : Bool)
    → Tells (with_plain f w text) (plain_faults f (names_in w.given) text)
    (names_in w.given ++ cons_option (name_at f (names_in w.given) (plain text quoted)) [])
plain_tells f w text quoted = go (are_items (helpers_of f))
  where
    operand : Tells (with_operand f w text (next_operand f w.given))
        (fault_if (not (is_some (operand_after f (names_in w.given))))
        (bad_param f (codes "operand")))
        (names_in w.given ++ cons_option (operand_after f (names_in w.given)) [])
    operand =
        subst
        (λ (o : Option ByteList).
        Tells (with_operand f w text o)
        (fault_if (not (is_some (operand_after f (names_in w.given))))
        (bad_param f (codes "operand")))
        (names_in w.given ++ cons_option (operand_after f (names_in w.given)) []))
        (sym (absent_found (operands f) w.given))
        (operand_tells f w text (operand_after f (names_in w.given)))

    go : (b : Bool)
        → Tells (cond b (with_item f w (field_item text))
        (with_operand f w text (next_operand f w.given)))
        (cond b (fault_if (not (is_some (field_item text))) (bad_param f (helper_name f)))
        (fault_if (not (is_some (operand_after f (names_in w.given))))
        (bad_param f (codes "operand"))))
        (names_in w.given
        ++ cons_option (cond b (Some (helper_name f)) (operand_after f (names_in w.given))) [])
    go true = read_tells f w param.Item (field_item text)
    go false = operand

-- a word under a key
word_tells : (f : Function) (made : List ByteList) (w : Walked) (key text : ByteList)
    (quoted : Bool) (o : Option Shape)
    → Tells (with_word f made w key text quoted o)
    (word_faults f made (names_in w.given) key text quoted o) (names_in w.given ++ key ∷ [])
word_tells f made w key text quoted None = bad_tells f key [] _
word_tells f made w key text quoted (Some s) =
    subst
    (λ (b : Bool).
    Tells (cond b (bad f key) (and_then (read_as s f key text quoted) (with_named f made w key)))
    (word_faults f made (names_in w.given) key text quoted (Some s))
    (names_in w.given ++ key ∷ []))
    (sym (given_named key w.given)) (go (is_named key (names_in w.given)))
  where
    named : (p : Param) (b : Bool)
        → Tells (cond b (bad f key) (fine (with_param w key p))) (fault_if b (bad_param f key))
        (names_in w.given ++ key ∷ [])
    named p true = bad_tells f key [] (names_in w.given ++ key ∷ [])
    named p false = param_tells w key p

    read : (r : Result Param PlanFault)
        → Tells (and_then r (with_named f made w key)) (value_faults f made key r)
        (names_in w.given ++ key ∷ [])
    read (Ok p) = named p (names_any made p)
    read (Err fault) = (refl, λ more e. absurd (cc))

    go : (b : Bool)
        → Tells (cond b (bad f key)
        (and_then (read_as s f key text quoted) (with_named f made w key)))
        (fault_if b (bad_param f key) ++ value_faults f made key (read_as s f key text quoted))
        (names_in w.given ++ key ∷ [])
    go true =
        bad_tells f key (value_faults f made key (read_as s f key text quoted))
        (names_in w.given ++ key ∷ [])
    go false = read (read_as s f key text quoted)

-- a call under a key
call_tells : (f : Function) (w : Walked) (key : ByteList) (o : Option Shape)
    → Tells (with_call f w key o) (call_faults f (names_in w.given) key o)
    (names_in w.given ++ key ∷ [])
call_tells f w key None = bad_tells f key [] _
call_tells f w key (Some s) =
    subst
    (λ (b : Bool).
    Tells (cond b (bad f key)
    (cond (may_be_call s) (fine (with_param w key param.Nothing)) (bad f key)))
    (call_faults f (names_in w.given) key (Some s)) (names_in w.given ++ key ∷ []))
    (sym (given_named key w.given)) (go (is_named key (names_in w.given)) (may_be_call s))
  where
    go : (b may : Bool)
        → Tells (cond b (bad f key) (cond may (fine (with_param w key param.Nothing)) (bad f key)))
        (fault_if b (bad_param f key) ++ fault_if (not may) (bad_param f key))
        (names_in w.given ++ key ∷ [])
    go true may =
        bad_tells f key (fault_if (not may) (bad_param f key)) (names_in w.given ++ key ∷ [])
    go false true = param_tells w key param.Nothing
    go false false = bad_tells f key [] (names_in w.given ++ key ∷ [])

-- a condition
condition_tells : (f : Function) (w : Walked) (o : Option ConditionTree)
    → Tells (with_condition f w o)
    (fault_if (not (is_some o)) (bad_param f (codes "condition")))
    (names_in w.given ++ codes "condition" ∷ [])
condition_tells f w None = bad_tells f (codes "condition") [] _
condition_tells f w (Some condition) =
    let with_it : Walked =
    record (with_param w (codes "condition") param.Nothing) { condition = Some condition } in (
      refl,
      λ more e.
          ap (λ (x : Walked). names_in x.given) (sym (fine_same with_it more e))
          ∙ names_more w (codes "condition") param.Nothing,
    )

-- a call that is a helper
helper_tells : (f : Function) (kind : Helpers) (w : Walked) (c : CallTree) → helpers_of f ≡ kind
    → (kind ≡ helpers.Nothing → ⊥)
    → Tells (with_helper kind f w c)
    (fault_if (not (can_be_read kind c)) (bad_param f (helper_name f)))
    (names_in w.given ++ helper_name f ∷ [])
helper_tells f helpers.Nothing w c same some = absurd (some refl)
helper_tells f helpers.Items w c same some = read_tells f w param.Item (item_of_call c)
helper_tells f helpers.Condition w c same some =
    let named : helper_name f ≡ codes "condition" = ap helper_word same in
    subst
    (λ (x : ByteList).
    Tells (with_condition f w (condition_of c))
    (fault_if (not (is_some (condition_of c))) (bad_param f x))
    (names_in w.given ++ x ∷ []))
    (sym named) (condition_tells f w (condition_of c))
helper_tells f helpers.Group w c same some = read_tells f w param.Group (group_of_call c)
helper_tells f helpers.Metrics w c same some = read_tells f w param.Metric (metric_of_call c)

-- a function without helpers has none
no_helper : (f : Function) (c : CallTree) → is_helper f c ≡ true → helpers_of f ≡ helpers.Nothing
    → ⊥
no_helper f c is none =
    let other : is_helper f c ≡ false = ap (λ kind. is_helper_word kind (called c)) none in cc

-- a call
sub_tells : (f : Function) (made : List ByteList) (w : Walked) (c : CallTree)
    → Tells (with_sub f w c) (faults_at f made (names_in w.given) (sub c))
    (names_in w.given ++ cons_option (name_at f (names_in w.given) (sub c)) [])
sub_tells f made w c =
    subst
    (λ (full : Bool).
    Tells (cond (is_helper f c)
    (cond (is_single (helpers_of f) && full) (bad f (codes "operand"))
    (with_helper (helpers_of f) f w c)) (fine w))
    (faults_at f made (names_in w.given) (sub c))
    (names_in w.given ++ cons_option (name_at f (names_in w.given) (sub c)) []))
    (sym (given_named (helper_name f) w.given)) (go (is_helper f c) refl)
  where
    full : Bool
    full = is_single (helpers_of f) && is_named (helper_name f) (names_in w.given)

    helper : (b : Bool) → (helpers_of f ≡ helpers.Nothing → ⊥)
        → Tells (cond b (bad f (codes "operand")) (with_helper (helpers_of f) f w c))
        (fault_if b (bad_param f (codes "operand"))
        ++ fault_if (not (can_be_read (helpers_of f) c)) (bad_param f (helper_name f)))
        (names_in w.given ++ helper_name f ∷ [])
    helper true some =
        bad_tells f (codes "operand")
        (fault_if (not (can_be_read (helpers_of f) c)) (bad_param f (helper_name f)))
        (names_in w.given ++ helper_name f ∷ [])
    helper false some = helper_tells f (helpers_of f) w c refl some

    go : (b : Bool) → is_helper f c ≡ b
        → Tells (cond b (cond full (bad f (codes "operand")) (with_helper (helpers_of f) f w c))
        (fine w))
        (cond b (helper_faults f (names_in w.given) c) [])
        (names_in w.given ++ cons_option (cond b (Some (helper_name f)) None) [])
    go true is = helper full (no_helper f c is)
    go false is =
        subst (λ (names : List ByteList). Tells (fine w) [] names)
        (sym (append-nil (names_in w.given))) (same_tells w)

-- a call with a new name
renamed_tells : (f : Function) (w : Walked) (c : CallTree) (to : ByteList)
    → Tells (with_renamed f w c to) (renamed_faults f c to)
    (names_in w.given ++ helper_name f ∷ [])
renamed_tells f w c to = go (are_items (helpers_of f) && is_helper f c)
  where
    go : (b : Bool)
        → Tells (cond b (with_item f w (renamed_item c to)) (bad f (codes "operand")))
        (cond b (fault_if (not (is_some (renamed_item c to))) (bad_param f (helper_name f)))
        (bad_param f (codes "operand") ∷ []))
        (names_in w.given ++ helper_name f ∷ [])
    go true = read_tells f w param.Item (renamed_item c to)
    go false = bad_tells f (codes "operand") [] (names_in w.given ++ helper_name f ∷ [])

-- an argument
arg_tells : (f : Function) (made : List ByteList) (w : Walked) (a : ArgTree)
    → Tells (with_arg f made w a) (faults_at f made (names_in w.given) a)
    (names_in w.given ++ cons_option (name_at f (names_in w.given) a) [])
arg_tells f made w (plain text quoted) = plain_tells f w text quoted
arg_tells f made w (named key text quoted) =
    word_tells f made w key text quoted (shape_of f key)
arg_tells f made w (named_call key c) = call_tells f w key (shape_of f key)
arg_tells f made w (sub c) = sub_tells f made w c
arg_tells f made w (renamed c to) = renamed_tells f w c to

-- all of them
pub args_tell : (f : Function) (made : List ByteList) (w : Walked) (args : ArgTrees)
    → Tells (with_args f made w args) (arg_faults f made (names_in w.given) args)
    (names_after f (names_in w.given) args)
args_tell f made w no_args = same_tells w
args_tell f made w (an_arg a args) =
    let names = names_in w.given in
    let after = names ++ cons_option (name_at f names a) [] in
    let here = arg_tells f made w a in
    let next : Walked → Result Walked PlanFault = λ x. with_args f made x args in
    let rest : (x : Walked) → with_arg f made w a ≡ Ok x
    → Tells (next x) (arg_faults f made after args) (names_after f after args) =
    λ x e.
    subst
    (λ (n : List ByteList). Tells (next x) (arg_faults f made n args) (names_after f n args))
    (here.1 x e) (args_tell f made x args) in (
      told_then (with_arg f made w a) next (faults_at f made names a)
          (arg_faults f made after args) here.0 (λ x e. (rest x e).0),
      λ more e.
          let step = and_then-ok (with_arg f made w a) next more e in
          (rest step.0 step.1).1 more step.2,
    )
