-- What a function makes of each key has none of the key's names, and each parameter that has to be
-- given has the shape of its key.
use Rattle.std.proofs.Common.{◌≡◌, List, [], ◌∷◌, Bool, true, false, not, ◌||◌, cond}
use Rattle.std.proofs.Common.{Option, Some, None, option_map, codes, refl, ap, sym, subst, ◌∙◌}
use Rattle.std.specs.List.{AllByRecursion, list_all, list_any, cons_option}
use Rattle.std.specs.Str.{bytes_eq}
use Rattle.std.proofs.lemmas.Slice.Eq.{bytes_eq-Decides}
use Rattle.tuple_values.specs.Document.{ByteList, is_named}
use Rattle.expr_reader.specs.Tree.{ArgTrees, no_args, an_arg}
use Rattle.expr_types.specs.Groups.{metric_name}
use Rattle.expr_types.specs.declared.item.Metric.{Metric}
use Rattle.expr_plan.specs.Given.{Walked}
use Rattle.expr_plan.specs.Functions.{shape_of, helpers_of}
use Rattle.expr_plan.specs.Given.{metric_in, metrics_in, is_given, param_at, names_in}
use Rattle.expr_plan.specs.Helpers.{names_any, made_by}
use Rattle.expr_plan.specs.Items.{metric_of_arg, metric_names}
use Rattle.expr_plan.specs.Words.{arg_list}
use Rattle.expr_plan.specs.declared.row.Function.{Function}
use Rattle.expr_plan.specs.declared.param.Given.{Given}
use Rattle.expr_plan.specs.declared.param.Param.{Param}
use Rattle.expr_plan.specs.declared.param.Param.TheVariants as param
use Rattle.expr_plan.specs.declared.row.Helpers.{Helpers}
use Rattle.expr_plan.specs.declared.row.Helpers.TheVariants as helpers
use Rattle.expr_plan.specs.declared.row.Shape.{Shape}
use Rattle.expr_plan.proofs.ReadLemmas.{IsGood, AreGood, AreMade}
use Rattle.expr_plan.proofs.ShapeLemmas.{HasShape, group_fits}

-- a name among some is among more
named_wider : (other : Option ByteList) (made : List ByteList) (name : ByteList)
    → is_named name made ≡ true → is_named name (cons_option other made) ≡ true
named_wider None made name e = e
named_wider (Some other) made name e = go (bytes_eq other name)
  where
    go : (b : Bool) → (b || is_named name made) ≡ true
    go true = refl
    go false = e

-- so are the metrics of arguments
made_wider : (other : Option ByteList) (made : List ByteList) (args : ArgTrees)
    → AreMade helpers.Metrics made args → AreMade helpers.Metrics (cons_option other made) args
made_wider other made no_args all = tt
made_wider other made (an_arg a args) all = (
  λ same m e. named_wider other made (metric_name m) (all.0 same m e),
  made_wider other made args all.1,
)

-- a metric is the first of the names that begin with its name
first_named : (o : Option Metric) (names : List ByteList) (m : Metric) → o ≡ Some m
    → is_named (metric_name m) (cons_option (option_map metric_name o) names) ≡ true
first_named None names m e = absurd (cc)
first_named (Some metric) names m e =
    subst (λ (x : Metric). is_named (metric_name m) (metric_name x ∷ names) ≡ true) (sym same)
    (ap (λ b. b || is_named (metric_name m) names)
    ((bytes_eq-Decides (metric_name m) (metric_name m)).1 refl))
  where
    same : metric ≡ m
    same = cc

-- each metric among arguments is one of those
metrics_made : (args : ArgTrees) → AreMade helpers.Metrics (metric_names (arg_list args)) args
metrics_made no_args = tt
metrics_made (an_arg a args) = (
  λ same m e. first_named (metric_of_arg a) (metric_names (arg_list args)) m e,
  made_wider (option_map metric_name (metric_of_arg a)) (metric_names (arg_list args)) args
      (metrics_made args),
)

-- nothing is asked of arguments where helpers are no metrics
others_made : (kind : Helpers) (made : List ByteList) (args : ArgTrees)
    → (kind ≡ helpers.Metrics → ⊥) → AreMade kind made args
others_made kind made no_args other = tt
others_made kind made (an_arg a args) other = (
  λ same m e. absurd (other same),
  others_made kind made args other,
)

-- each metric among arguments is one of the made fields
pub all_made : (kind : Helpers) (args : ArgTrees) → AreMade kind (made_by kind args) args
all_made helpers.Nothing args = others_made helpers.Nothing [] args (λ same. cc)
all_made helpers.Items args = others_made helpers.Items [] args (λ same. cc)
all_made helpers.Condition args = others_made helpers.Condition [] args (λ same. cc)
all_made helpers.Group args =
    others_made helpers.Group (codes "group" ∷ []) args (λ same. cc)
all_made helpers.Metrics args = metrics_made args

-- a fact of each parameter of a name is one of the parameter that was given
pub at_passes : (f : Function) (made : List ByteList) (key : ByteList) (P : Param → Type 0)
    (given : List Given)
    → ((g : Given) → IsGood f made g → bytes_eq g.name key ≡ true → P g.param)
    → AllByRecursion (IsGood f made) given → is_given key given ≡ true → P (param_at key given)
at_passes f made key P [] passes all is = absurd (cc)
at_passes f made key P (g ∷ given) passes all is =
    go (bytes_eq g.name key) refl is (at_passes f made key P given passes all.1)
  where
    go : (b : Bool) → bytes_eq g.name key ≡ b → (b || is_given key given) ≡ true
        → (is_given key given ≡ true → P (param_at key given))
        → P (cond b g.param (param_at key given))
    go true same is later = passes g all.0 same
    go false same is later = later is

-- a parameter that was given under a key has the key's shape
pub shape_at : (f : Function) (made : List ByteList) (key : ByteList) (s : Shape) (w : Walked)
    → shape_of f key ≡ Some s → AreGood f made w → is_given key w.given ≡ true
    → HasShape s (param_at key w.given)
shape_at f made key s w known all is =
    at_passes f made key (HasShape s) w.given
    (λ g good same. good.2 s (ap (shape_of f) ((bytes_eq-Decides g.name key).0 same) ∙ known)) all
    is

-- the group that was given is within its limits
pub group_at : (f : Function) (made : List ByteList) (w : Walked) → helpers_of f ≡ helpers.Group
    → AreGood f made w
    → is_given (codes "group") w.given ≡ true
    → group_fits (param_at (codes "group") w.given) ≡ true
group_at f made w group all is =
    at_passes f made (codes "group") (λ p. group_fits p ≡ true) w.given
    (λ g good same. good.3 group same) all is

-- where nothing is given under a name, its parameter is nothing
pub not_given : (key : ByteList) (given : List Given) → is_given key given ≡ false
    → param_at key given ≡ param.Nothing
not_given key [] none = refl
not_given key (g ∷ given) none = go (bytes_eq g.name key) none (not_given key given)
  where
    go : (b : Bool) → (b || is_given key given) ≡ false
        → (is_given key given ≡ false → param_at key given ≡ param.Nothing)
        → cond b g.param (param_at key given) ≡ param.Nothing
    go true none later = absurd (cc)
    go false none later = later none

-- the parameter of a name, too, names none of the made fields
param_free : (f : Function) (made : List ByteList) (key : ByteList) (given : List Given)
    → AllByRecursion (IsGood f made) given → names_any made (param_at key given) ≡ false
param_free f made key [] all = refl
param_free f made key (g ∷ given) all =
    go (bytes_eq g.name key) (param_free f made key given all.1)
  where
    go : (b : Bool) → names_any made (param_at key given) ≡ false
        → names_any made (cond b g.param (param_at key given)) ≡ false
    go true later = all.0.0
    go false later = later

-- no name is in the empty list
none_named : (made : List ByteList) → list_any (λ name. is_named name []) made ≡ false
none_named [] = refl
none_named (name ∷ made) = none_named made

-- nor in the names of a parameter that names none of them
names_free : (made : List ByteList) (p : Param) → names_any made p ≡ false
    → list_any (λ name. is_named name (names_in p)) made ≡ false
names_free made (param.Names names) e = e
names_free made _ e = none_named made

-- the names of a key hold none of the made fields
pub key_free : (f : Function) (made : List ByteList) (key : ByteList) (w : Walked)
    → AreGood f made w
    → list_any (λ name. is_named name (names_in (param_at key w.given))) made ≡ false
key_free f made key w all =
    names_free made (param_at key w.given) (param_free f made key w.given all)

-- neither of two
pub either_false : (a b : Bool) → (a || b) ≡ false → (a ≡ false) × (b ≡ false)
either_false true b e = absurd (cc)
either_false false b e = (refl, e)

-- a made field isn't among names that hold none of them
not_named : (over made : List ByteList) (name : ByteList)
    → list_any (λ name. is_named name over) made ≡ false → is_named name made ≡ true
    → is_named name over ≡ false
not_named over [] name free is = absurd (cc)
not_named over (other ∷ made) name free is =
    go (bytes_eq other name) refl is (not_named over made name parts.1)
  where
    parts : (is_named other over ≡ false) × (list_any (λ name. is_named name over) made ≡ false)
    parts = either_false (is_named other over) (list_any (λ name. is_named name over) made) free

    go : (b : Bool) → bytes_eq other name ≡ b → (b || is_named name made) ≡ true
        → (is_named name made ≡ true → is_named name over ≡ false) → is_named name over ≡ false
    go true same is later =
        subst (λ (x : ByteList). is_named x over ≡ false) ((bytes_eq-Decides other name).0 same)
        parts.0
    go false same is later = later is

-- nor is the name of a metric
pub metrics_free : (f : Function) (over made : List ByteList) (given : List Given)
    → helpers_of f ≡ helpers.Metrics → list_any (λ name. is_named name over) made ≡ false
    → AllByRecursion (IsGood f made) given
    → list_all (λ m. not (is_named (metric_name m) over)) (metrics_in given) ≡ true
metrics_free f over made [] metrics free all = refl
metrics_free f over made (g ∷ given) metrics free all =
    go (metric_in g) refl (metrics_free f over made given metrics free all.1)
  where
    go : (o : Option Metric) → metric_in g ≡ o
        → list_all (λ m. not (is_named (metric_name m) over)) (metrics_in given) ≡ true
        → list_all (λ m. not (is_named (metric_name m) over)) (cons_option o (metrics_in given))
        ≡ true
    go None is later = later
    go (Some m) is later =
        rw (not_named over made (metric_name m) free (all.0.1 metrics m is)) later
