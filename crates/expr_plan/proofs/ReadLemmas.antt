-- What the arguments of a call give is as its function takes it: a value under a key has the key's
-- shape and names no field that the function makes, a group is within its limits, and a metric is
-- one of the fields that are made.
use Rattle.std.proofs.Common.{◌≡◌, List, [], ◌∷◌, ◌++◌, Bool, true, false, cond}
use Rattle.std.proofs.Common.{Option, Some, None, option_map, Ok, codes, refl, ap}
use Rattle.std.proofs.Common.{subst, ◌∙◌, ◌&&◌, ◌⊎◌, inl, inr}
use Rattle.std.specs.List.{AllByRecursion}
use Rattle.std.specs.Str.{bytes_eq}
use Rattle.std.proofs.lemmas.Slice.Eq.{bytes_eq-Decides}
use Rattle.tuple_values.specs.Document.{ByteList, is_named}
use Rattle.expr_reader.specs.Tree.{CallTree, ArgTree, plain, named, named_call, sub, renamed}
use Rattle.expr_reader.specs.Tree.{ArgTrees, no_args, an_arg}
use Rattle.expr_types.specs.ConditionTree.{ConditionTree}
use Rattle.expr_types.specs.Groups.{metric_name}
use Rattle.expr_types.specs.declared.item.GroupOp.{GroupOp}
use Rattle.expr_types.specs.declared.item.Item.{Item}
use Rattle.expr_types.specs.declared.item.Metric.{Metric}
use Rattle.expr_plan.specs.Given.{Walked}
use Rattle.expr_plan.specs.Arguments.{with_param, with_named, with_word, with_plain}
use Rattle.expr_plan.specs.Arguments.{with_operand, with_item, with_condition, with_helper}
use Rattle.expr_plan.specs.Arguments.{with_renamed}
use Rattle.expr_plan.specs.Arguments.{with_arg, with_args, with_sub, with_read, with_call}
use Rattle.expr_plan.specs.Arguments.{may_be_call}
use Rattle.expr_plan.specs.ConditionReading.{condition_of}
use Rattle.expr_plan.specs.Fault.{and_then}
use Rattle.expr_plan.specs.Functions.{shape_of}
use Rattle.expr_plan.specs.Given.{metric_in, metric_of_param, is_given}
use Rattle.expr_plan.specs.GroupReading.{group_of_call}
use Rattle.expr_plan.specs.Helpers.{is_helper, is_full, names_any}
use Rattle.expr_plan.specs.Items.{metric_of_call, metric_of_arg, field_item, item_of_call}
use Rattle.expr_plan.specs.Items.{renamed_item}
use Rattle.expr_plan.specs.Shapes.{bad, read_as}
use Rattle.expr_plan.specs.Functions.{helpers_of, helper_word, operands, next_operand}
use Rattle.std.proofs.Common.{sym}
use Rattle.expr_plan.specs.Given.{first_absent}
use Rattle.expr_plan.specs.Helpers.{helper_name, are_items}
use Rattle.expr_plan.specs.declared.row.Function.{Function}
use Rattle.expr_plan.specs.declared.row.Function.TheVariants.{Search, Tuple, Select, Having}
use Rattle.expr_plan.specs.declared.row.Function.TheVariants.{Sort, Top, Unique, Merge}
use Rattle.expr_plan.specs.declared.row.Function.TheVariants.{Reduce, Rollup, InnerJoin}
use Rattle.expr_plan.specs.declared.row.Function.TheVariants.{LeftOuterJoin, Intersect}
use Rattle.expr_plan.specs.declared.row.Function.TheVariants.{Complement, HashJoin}
use Rattle.expr_plan.specs.declared.row.Function.TheVariants.{OuterHashJoin, Parallel, Topic}
use Rattle.expr_plan.specs.declared.row.Function.TheVariants.{Update, Commit, Daemon}
use Rattle.expr_plan.specs.declared.param.Given.{Given}
use Rattle.expr_plan.specs.declared.param.Param.{Param}
use Rattle.expr_plan.specs.declared.param.Param.TheVariants as param
use Rattle.expr_plan.specs.declared.row.Helpers.{Helpers}
use Rattle.expr_plan.specs.declared.row.Helpers.TheVariants as helpers
use Rattle.expr_plan.specs.declared.row.Shape.{Shape}
use Rattle.expr_plan.proofs.ShapeLemmas.{fine, fine_same, and_then-ok, HasShape, read_has}
use Rattle.expr_plan.proofs.ShapeLemmas.{call_has, group_fits, group_read}

-- a parameter names none of the made fields, and a metric is one of them; under a key it has the
-- key's shape, and a group is within its limits
abbrev pub IsGood : Function → List ByteList → Given → Type 0
IsGood f made g =
    (names_any made g.param ≡ false)
    × (helpers_of f ≡ helpers.Metrics → (m : Metric) → metric_in g ≡ Some m
    → is_named (metric_name m) made ≡ true)
    × ((s : Shape) → shape_of f g.name ≡ Some s → HasShape s g.param)
    × (helpers_of f ≡ helpers.Group → bytes_eq g.name (codes "group") ≡ true
    → group_fits g.param ≡ true)

-- each parameter is so
abbrev pub AreGood : Function → List ByteList → Walked → Type 0
AreGood f made w = AllByRecursion (IsGood f made) w.given

-- one more
good_more : (f : Function) (made : List ByteList) (given : List Given) (g : Given)
    → AllByRecursion (IsGood f made) given → IsGood f made g
    → AllByRecursion (IsGood f made) (given ++ g ∷ [])
good_more f made [] g all one = (one, tt)
good_more f made (first ∷ given) g all one = (all.0, good_more f made given g all.1 one)

-- what has no fault is what it is
same_good : (f : Function) (made : List ByteList) (w more : Walked) → fine w ≡ Ok more
    → AreGood f made w → AreGood f made more
same_good f made w more e all = subst (AreGood f made) (fine_same w more e) all

-- what has one parameter more
param_good : (f : Function) (made : List ByteList) (w more : Walked) (name : ByteList) (p : Param)
    → fine (with_param w name p) ≡ Ok more → IsGood f made (record { name = name; param = p })
    → AreGood f made w → AreGood f made more
param_good f made w more name p e one all =
    same_good f made (with_param w name p) more e
    (good_more f made w.given (record { name = name; param = p }) all one)

-- there are no helpers, or what they are told as is no key of the function
abbrev IsApart : Function → Helpers → Type 0
IsApart f kind = (kind ≡ helpers.Nothing) ⊎ (shape_of f (helper_word kind) ≡ None)

-- so it is of each function and its helpers
told_apart : (f : Function) → IsApart f (helpers_of f)
told_apart Search = inl refl
told_apart Tuple = inl refl
told_apart Select = inr refl
told_apart Having = inr refl
told_apart Sort = inl refl
told_apart Top = inl refl
told_apart Unique = inl refl
told_apart Merge = inl refl
told_apart Reduce = inr refl
told_apart Rollup = inr refl
told_apart InnerJoin = inl refl
told_apart LeftOuterJoin = inl refl
told_apart Intersect = inl refl
told_apart Complement = inl refl
told_apart HashJoin = inl refl
told_apart OuterHashJoin = inl refl
told_apart Parallel = inl refl
told_apart Topic = inl refl
told_apart Update = inl refl
told_apart Commit = inl refl
told_apart Daemon = inl refl

-- a name that is neither a key of a function nor what its helpers are told as
abbrev pub IsOther : Function → ByteList → Type 0
IsOther f name = (shape_of f name ≡ None) × (bytes_eq name (helper_name f) ≡ false)

-- such a name is each operand
pub operands_apart : (f : Function) → AllByRecursion (IsOther f) (operands f)
operands_apart Search = ((refl, refl), tt)
operands_apart Tuple = tt
operands_apart Select = tt
operands_apart Having = tt
operands_apart Sort = tt
operands_apart Top = tt
operands_apart Unique = tt
operands_apart Merge = tt
operands_apart Reduce = tt
operands_apart Rollup = tt
operands_apart InnerJoin = tt
operands_apart LeftOuterJoin = tt
operands_apart Intersect = tt
operands_apart Complement = tt
operands_apart HashJoin = tt
operands_apart OuterHashJoin = tt
operands_apart Parallel = ((refl, refl), tt)
operands_apart Topic = ((refl, refl), ((refl, refl), tt))
operands_apart Update = ((refl, refl), tt)
operands_apart Commit = ((refl, refl), tt)
operands_apart Daemon = tt

-- a key isn't what helpers of these are told as
pub no_key : (f : Function) (kind : Helpers) (key : ByteList) (s : Shape) → helpers_of f ≡ kind
    → (kind ≡ helpers.Nothing → ⊥) → bytes_eq key (helper_word kind) ≡ true
    → shape_of f key ≡ Some s → ⊥
no_key f kind key s same some is known =
    go (subst (IsApart f) same (told_apart f))
  where
    here : shape_of f (helper_word kind) ≡ Some s
    here = ap (shape_of f) (sym ((bytes_eq-Decides key (helper_word kind)).0 is)) ∙ known

    go : IsApart f kind → ⊥
    go (inl none) = some none
    go (inr none) = let clash : None ≡ Some s = sym none ∙ here in cc

-- a parameter that was read under a key
key_good : (f : Function) (made : List ByteList) (key : ByteList) (s : Shape) (p : Param)
    → shape_of f key ≡ Some s → HasShape s p → names_any made p ≡ false
    → IsGood f made (record { name = key; param = p })
key_good f made key s p known has free = (
  free,
  λ same m e. metric same (bytes_eq key (codes "metric")) refl m e,
  λ s2 known2. shaped s2 known2,
  λ same is. absurd (no_key f helpers.Group key s same (λ e. cc) is known),
)
  where
    shaped : (other : Shape) → shape_of f key ≡ Some other → HasShape other p
    shaped other e =
        let same : s ≡ other = cc in subst (λ x. HasShape x p) same has

    metric : helpers_of f ≡ helpers.Metrics → (b : Bool) → bytes_eq key (codes "metric") ≡ b
        → (m : Metric) → cond b (metric_of_param p) None ≡ Some m
        → is_named (metric_name m) made ≡ true
    metric same true is m e = absurd (no_key f helpers.Metrics key s same (λ e. cc) is known)
    metric same false is m e = absurd (cc)

-- a word under a key
word_good : (f : Function) (made : List ByteList) (w more : Walked) (key text : ByteList)
    (quoted : Bool) (o : Option Shape) → shape_of f key ≡ o
    → with_word f made w key text quoted o ≡ Ok more
    → AreGood f made w → AreGood f made more
word_good f made w more key text quoted None known e all = absurd (cc)
word_good f made w more key text quoted (Some s) known e all = go (is_given key w.given) e
  where
    named : (p : Param) (b : Bool) → HasShape s p → names_any made p ≡ b
        → cond b (bad f key) (fine (with_param w key p)) ≡ Ok more → AreGood f made more
    named p true has is e = absurd (cc)
    named p false has is e =
        param_good f made w more key p e (key_good f made key s p known has is) all

    go : (b : Bool)
        → cond b (bad f key) (and_then (read_as s f key text quoted) (with_named f made w key))
        ≡ Ok more
        → AreGood f made more
    go true e = absurd (cc)
    go false e =
        let x = and_then-ok (read_as s f key text quoted) (with_named f made w key) more e in
        named x.0 (names_any made x.0) (read_has s f key text quoted x.0 x.1) refl x.2

-- a call under a key
call_good : (f : Function) (made : List ByteList) (w more : Walked) (key : ByteList)
    (o : Option Shape) → shape_of f key ≡ o → with_call f w key o ≡ Ok more
    → AreGood f made w → AreGood f made more
call_good f made w more key None known e all = absurd (cc)
call_good f made w more key (Some s) known e all = go (is_given key w.given) e
  where
    free : (b : Bool) → may_be_call s ≡ b
        → cond b (fine (with_param w key param.Nothing)) (bad f key) ≡ Ok more
        → AreGood f made more
    free true is e =
        param_good f made w more key param.Nothing e
        (key_good f made key s param.Nothing known (call_has s is) refl) all
    free false is e = absurd (cc)

    go : (b : Bool)
        → cond b (bad f key)
        (cond (may_be_call s) (fine (with_param w key param.Nothing)) (bad f key)) ≡ Ok more
        → AreGood f made more
    go true e = absurd (cc)
    go false e = free (may_be_call s) refl e

-- a helper that was read as this parameter
told_good : (f : Function) (made : List ByteList) (kind : Helpers) (p : Param)
    → helpers_of f ≡ kind → (kind ≡ helpers.Nothing → ⊥) → names_any made p ≡ false
    → (kind ≡ helpers.Metrics → (m : Metric) → metric_of_param p ≡ Some m
    → is_named (metric_name m) made ≡ true)
    → (kind ≡ helpers.Group → group_fits p ≡ true)
    → IsGood f made (record { name = helper_name f; param = p })
told_good f made kind p same some free metrics group = (
  free,
  λ is m e. metric (bytes_eq (helper_name f) (codes "metric")) is m e,
  λ s known.
      absurd (no_key f kind (helper_name f) s same some
      ((bytes_eq-Decides (helper_name f) (helper_word kind)).1 (ap helper_word same)) known),
  λ is name. group (sym same ∙ is),
)
  where
    metric : (b : Bool) → helpers_of f ≡ helpers.Metrics → (m : Metric)
        → cond b (metric_of_param p) None ≡ Some m → is_named (metric_name m) made ≡ true
    metric true is m e = metrics (sym same ∙ is) m e
    metric false is m e = absurd (cc)

-- an item, where one was read
item_good : (f : Function) (made : List ByteList) (w more : Walked) (o : Option Item)
    → helpers_of f ≡ helpers.Items → with_item f w o ≡ Ok more
    → AreGood f made w → AreGood f made more
item_good f made w more None same e all = absurd (cc)
item_good f made w more (Some item) same e all =
    param_good f made w more (helper_name f) (param.Item item) e
    (told_good f made helpers.Items (param.Item item) same (λ e. cc) refl
    (λ e. absurd (cc)) (λ e. absurd (cc))) all

-- a condition
condition_good : (f : Function) (made : List ByteList) (w more : Walked)
    (o : Option ConditionTree) → helpers_of f ≡ helpers.Condition
    → with_condition f w o ≡ Ok more → AreGood f made w → AreGood f made more
condition_good f made w more None same e all = absurd (cc)
condition_good f made w more (Some condition) same e all =
    let with_it : Walked =
    record (with_param w (codes "condition") param.Nothing) { condition = Some condition } in
    let named : helper_name f ≡ codes "condition" = ap helper_word same in
    let one =
    told_good f made helpers.Condition param.Nothing same (λ e. cc) refl
    (λ e. absurd (cc)) (λ e. absurd (cc)) in
    same_good f made with_it more e
    (good_more f made w.given (record { name = codes "condition"; param = param.Nothing }) all
    (subst (λ (x : ByteList). IsGood f made (record { name = x; param = param.Nothing })) named
    one))

-- a group, where one was read
group_good : (f : Function) (made : List ByteList) (w more : Walked) (c : CallTree)
    (o : Option GroupOp) → helpers_of f ≡ helpers.Group → group_of_call c ≡ o
    → with_read f w (option_map param.Group o) ≡ Ok more
    → AreGood f made w → AreGood f made more
group_good f made w more c None same is e all = absurd (cc)
group_good f made w more c (Some op) same is e all =
    param_good f made w more (helper_name f) (param.Group op) e
    (told_good f made helpers.Group (param.Group op) same (λ e. cc) refl
    (λ e. absurd (cc)) (λ e. group_read c op is)) all

-- each metric that an argument is, is one of the made fields, where helpers are metrics
abbrev pub IsMade : Helpers → List ByteList → ArgTree → Type 0
IsMade kind made a =
    kind ≡ helpers.Metrics → (m : Metric) → metric_of_arg a ≡ Some m
    → is_named (metric_name m) made ≡ true

-- each of several
abbrev pub AreMade : Helpers → List ByteList → ArgTrees → Type 0
AreMade kind made no_args = Unit {0}
AreMade kind made (an_arg a args) = IsMade kind made a × AreMade kind made args

-- a metric, where one was read
metric_good : (f : Function) (made : List ByteList) (w more : Walked) (c : CallTree)
    (o : Option Metric) → helpers_of f ≡ helpers.Metrics
    → IsMade helpers.Metrics made (sub c) → metric_of_call c ≡ o
    → with_read f w (option_map param.Metric o) ≡ Ok more
    → AreGood f made w → AreGood f made more
metric_good f made w more c None same is_made is e all = absurd (cc)
metric_good f made w more c (Some metric) same is_made is e all =
    param_good f made w more (helper_name f) (param.Metric metric) e
    (told_good f made helpers.Metrics (param.Metric metric) same (λ e. cc) refl
    (λ e m one. is_made refl m (is ∙ one)) (λ e. absurd (cc))) all

-- a helper
helper_good : (f : Function) (kind : Helpers) (made : List ByteList) (w more : Walked)
    (c : CallTree) → helpers_of f ≡ kind → IsMade kind made (sub c)
    → with_helper kind f w c ≡ Ok more → AreGood f made w → AreGood f made more
helper_good f helpers.Nothing made w more c same is_made e all = same_good f made w more e all
helper_good f helpers.Items made w more c same is_made e all =
    item_good f made w more (item_of_call c) same e all
helper_good f helpers.Condition made w more c same is_made e all =
    condition_good f made w more (condition_of c) same e all
helper_good f helpers.Group made w more c same is_made e all =
    group_good f made w more c (group_of_call c) same refl e all
helper_good f helpers.Metrics made w more c same is_made e all =
    metric_good f made w more c (metric_of_call c) same is_made refl e all

-- a call
sub_good : (f : Function) (made : List ByteList) (w more : Walked) (c : CallTree)
    → IsMade (helpers_of f) made (sub c) → with_sub f w c ≡ Ok more
    → AreGood f made w → AreGood f made more
sub_good f made w more c is_made e all = go (is_helper f c) e
  where
    helper : (b : Bool)
        → cond b (bad f (codes "operand")) (with_helper (helpers_of f) f w c) ≡ Ok more
        → AreGood f made more
    helper true e = absurd (cc)
    helper false e = helper_good f (helpers_of f) made w more c refl is_made e all

    go : (b : Bool)
        → cond b (cond (is_full f w.given) (bad f (codes "operand"))
        (with_helper (helpers_of f) f w c)) (fine w)
        ≡ Ok more
        → AreGood f made more
    go true e = helper (is_full f w.given) e
    go false e = same_good f made w more e all

-- helpers that are items
pub items_are : (kind : Helpers) → are_items kind ≡ true → kind ≡ helpers.Items
items_are helpers.Nothing e = absurd (cc)
items_are helpers.Items e = refl
items_are helpers.Condition e = absurd (cc)
items_are helpers.Group e = absurd (cc)
items_are helpers.Metrics e = absurd (cc)

-- a call with a new name
renamed_good : (f : Function) (made : List ByteList) (w more : Walked) (c : CallTree)
    (to : ByteList) → with_renamed f w c to ≡ Ok more
    → AreGood f made w → AreGood f made more
renamed_good f made w more c to e all = go (are_items (helpers_of f)) (is_helper f c) refl e
  where
    go : (a b : Bool) → are_items (helpers_of f) ≡ a
        → cond (a && b) (with_item f w (renamed_item c to)) (bad f (codes "operand")) ≡ Ok more
        → AreGood f made more
    go true true is e =
        item_good f made w more (renamed_item c to) (items_are (helpers_of f) is) e all
    go true false is e = absurd (cc)
    go false b is e = absurd (cc)

-- a fact of each name is one of the first that isn't given
absent_one : (P : ByteList → Type 0) (names : List ByteList) (given : List Given)
    (name : ByteList) → AllByRecursion P names → first_absent names given ≡ Some name → P name
absent_one P [] given name all e = absurd (cc)
absent_one P (first ∷ names) given name all e =
    go (is_given first given) e (absent_one P names given name all.1)
  where
    go : (b : Bool) → cond b (first_absent names given) (Some first) ≡ Some name
        → (first_absent names given ≡ Some name → P name) → P name
    go true e later = later e
    go false e later = let same : first ≡ name = cc in subst P same all.0

-- an operand
operand_good : (f : Function) (made : List ByteList) (w more : Walked) (text : ByteList)
    (o : Option ByteList) → next_operand f w.given ≡ o → with_operand f w text o ≡ Ok more
    → AreGood f made w → AreGood f made more
operand_good f made w more text None is e all = absurd (cc)
operand_good f made w more text (Some name) is e all =
    param_good f made w more name (param.Plain text) e (
      refl,
      λ same m none. metric (bytes_eq name (codes "metric")) m none,
      λ s known. let clash : None ≡ Some s = sym other.0 ∙ known in absurd (cc),
      λ same is. absurd (group same is),
    ) all
  where
    other : IsOther f name
    other = absent_one (IsOther f) (operands f) w.given name (operands_apart f) is

    metric : (b : Bool) (m : Metric) → cond b None None ≡ Some m
        → is_named (metric_name m) made ≡ true
    metric true m e = absurd (cc)
    metric false m e = absurd (cc)

    group : helpers_of f ≡ helpers.Group → bytes_eq name (codes "group") ≡ true → ⊥
    group same is =
        let told : bytes_eq name (codes "group") ≡ false =
        ap (λ x. bytes_eq name (helper_word x)) (sym same) ∙ other.1 in
        cc

-- a plain word
plain_good : (f : Function) (made : List ByteList) (w more : Walked) (text : ByteList)
    → with_plain f w text ≡ Ok more → AreGood f made w → AreGood f made more
plain_good f made w more text e all = go (are_items (helpers_of f)) refl e
  where
    go : (b : Bool) → are_items (helpers_of f) ≡ b
        → cond b (with_item f w (field_item text))
        (with_operand f w text (next_operand f w.given)) ≡ Ok more
        → AreGood f made more
    go true is e =
        item_good f made w more (field_item text) (items_are (helpers_of f) is) e all
    go false is e = operand_good f made w more text (next_operand f w.given) refl e all

-- an argument
arg_good : (f : Function) (made : List ByteList) (w more : Walked) (a : ArgTree)
    → IsMade (helpers_of f) made a → with_arg f made w a ≡ Ok more
    → AreGood f made w → AreGood f made more
arg_good f made w more (plain text quoted) is_made e all = plain_good f made w more text e all
arg_good f made w more (named key text quoted) is_made e all =
    word_good f made w more key text quoted (shape_of f key) refl e all
arg_good f made w more (named_call key c) is_made e all =
    call_good f made w more key (shape_of f key) refl e all
arg_good f made w more (sub c) is_made e all = sub_good f made w more c is_made e all
arg_good f made w more (renamed c to) is_made e all = renamed_good f made w more c to e all

-- all of them
pub args_good : (f : Function) (made : List ByteList) (w more : Walked) (args : ArgTrees)
    → AreMade (helpers_of f) made args → with_args f made w args ≡ Ok more
    → AreGood f made w → AreGood f made more
args_good f made w more no_args are_made e all = same_good f made w more e all
args_good f made w more (an_arg a args) are_made e all =
    let step = and_then-ok (with_arg f made w a) (λ x. with_args f made x args) more e in
    args_good f made step.0 more args are_made.1 step.2
    (arg_good f made w step.0 a are_made.0 step.1 all)
