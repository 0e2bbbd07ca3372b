-- The operator of a call without a fault is well over as many inputs as its function takes: its
-- numbers are within their limits, and what it keeps of a text is read from it.
use Rattle.std.specs.Prelude.{◌==◌}
use Rattle.std.proofs.Common.{◌≡◌, ℕ, List, [], ◌∷◌, Bool, true, false, not, ◌&&◌, ◌||◌, cond}
use Rattle.std.proofs.Common.{Option, Some, None, Ok, Err, codes, subst, length, ap, refl}
use Rattle.std.specs.Str.{bytes_eq}
use Rattle.std.proofs.lemmas.Slice.Eq.{bytes_eq-Decides}
use Rattle.tuple_values.specs.Document.{ByteList, is_named}
use Rattle.query_syntax.specs.Reading.{read_of}
use Rattle.expr_reader.specs.Tree.{ArgTrees}
use Rattle.expr_types.specs.Rules.{is_well, IsRead}
use Rattle.expr_types.specs.Limits.{is_between, may_be_between, count_limit, row_limit, id_limit}
use Rattle.expr_types.specs.Limits.{checkpoint_limit, worker_limit, batch_limit, interval_limit}
use Rattle.expr_plan.specs.Given.{Walked, nothing_given}
use Rattle.expr_plan.specs.Arguments.{with_args}
use Rattle.expr_plan.specs.Fault.{and_then}
use Rattle.expr_plan.specs.Functions.{name_of, first_missing, takes, required, helpers_of}
use Rattle.expr_plan.specs.Functions.{takes_all, shape_of}
use Rattle.expr_plan.specs.Given.{param_at, names_in, is_given, first_absent, number_in, count_or}
use Rattle.expr_plan.specs.Given.{group_in, small_in, text_in, kept_query_in, kept_text_in}
use Rattle.expr_plan.specs.Helpers.{made_names}
use Rattle.expr_plan.specs.Operators.{operator_of}
use Rattle.expr_plan.specs.Walk.{walked_of, complete, inputs_found}
use Rattle.expr_plan.specs.declared.fault.PlanFault.TheVariants.{WrongInputs}
use Rattle.expr_plan.specs.declared.row.Function.{Function}
use Rattle.expr_plan.specs.declared.row.Function.TheVariants.{Search, Tuple, Select, Having}
use Rattle.expr_plan.specs.declared.row.Function.TheVariants.{Sort, Top, Unique, Merge}
use Rattle.expr_plan.specs.declared.row.Function.TheVariants.{Reduce, Rollup, InnerJoin}
use Rattle.expr_plan.specs.declared.row.Function.TheVariants.{LeftOuterJoin, Intersect}
use Rattle.expr_plan.specs.declared.row.Function.TheVariants.{Complement, HashJoin}
use Rattle.expr_plan.specs.declared.row.Function.TheVariants.{OuterHashJoin, Parallel, Topic}
use Rattle.expr_plan.specs.declared.row.Function.TheVariants.{Update, Commit, Daemon}
use Rattle.expr_plan.specs.declared.row.Place.TheVariants.{Alone}
use Rattle.expr_plan.specs.declared.row.Shape.{Shape}
use Rattle.expr_plan.specs.declared.row.Shape.TheVariants as shape
use Rattle.expr_plan.specs.declared.param.Given.{Given}
use Rattle.expr_plan.specs.declared.param.Param.{Param}
use Rattle.expr_plan.specs.declared.param.Param.TheVariants as param
use Rattle.expr_plan.proofs.ReadLemmas.{AreGood, args_good}
use Rattle.expr_plan.proofs.ShapeLemmas.{fine_same, and_then-ok, HasShape, group_fits}
use Rattle.expr_plan.proofs.KeptLemmas.{all_made, key_free, either_false, metrics_free, shape_at}
use Rattle.expr_plan.proofs.KeptLemmas.{group_at, not_given}

-- both of two tests
both : (a b : Bool) → a ≡ true → b ≡ true → (a && b) ≡ true
both a b e f = rw (e, f) refl

-- what is complete is what was given, and nothing is missing
complete_same : (f : Function) (w more : Walked) (missing : Option ByteList)
    → complete f w missing ≡ Ok more → (w ≡ more) × (missing ≡ None)
complete_same f w more None e = (fine_same w more e, refl)
complete_same f w more (Some name) e = absurd (cc)

-- what the arguments give, where there are as many inputs as the function takes and nothing is
-- missing
pub walked_parts : (f : Function) (args : ArgTrees) (w : Walked) → walked_of f args ≡ Ok w
    → (takes f (inputs_found Alone f args) ≡ true)
    × (with_args f (made_names f args) nothing_given args ≡ Ok w)
    × (first_missing f w.given ≡ None)
walked_parts f args w e = go (takes f (inputs_found Alone f args)) refl e
  where
    go : (b : Bool) → takes f (inputs_found Alone f args) ≡ b
        → cond b (and_then (with_args f (made_names f args) nothing_given args)
        (λ w. complete f w (first_missing f w.given)))
        (Err (WrongInputs (name_of f) (inputs_found Alone f args))) ≡ Ok w
        → (takes f (inputs_found Alone f args) ≡ true)
        × (with_args f (made_names f args) nothing_given args ≡ Ok w)
        × (first_missing f w.given ≡ None)
    go true is e =
        let step = and_then-ok (with_args f (made_names f args) nothing_given args)
        (λ w. complete f w (first_missing f w.given)) w e in
        let same = complete_same f step.0 w (first_missing f step.0.given) step.2 in (
          is,
          subst (λ (x : Walked). with_args f (made_names f args) nothing_given args ≡ Ok x)
              same.0 step.1,
          subst (λ (x : Walked). first_missing f x.given ≡ None) same.0 same.1,
        )
    go false is e = absurd (cc)

-- where a call has no fault, its function takes as many inputs as there are
pub walked_takes : (f : Function) (args : ArgTrees) (w : Walked) → walked_of f args ≡ Ok w
    → takes f (inputs_found Alone f args) ≡ true
walked_takes f args w e = (walked_parts f args w e).0

-- each parameter is as its function takes it
walked_good : (f : Function) (args : ArgTrees) (w : Walked) → walked_of f args ≡ Ok w
    → AreGood f (made_names f args) w
walked_good f args w e =
    args_good f (made_names f args) nothing_given w args (all_made (helpers_of f) args)
    (walked_parts f args w e).1 tt

-- each name of a list of which none is absent is given
each_given : (names : List ByteList) (given : List Given) (name : ByteList)
    → first_absent names given ≡ None → is_named name names ≡ true → is_given name given ≡ true
each_given [] given name none is = absurd (cc)
each_given (first ∷ names) given name none is =
    go (is_given first given) refl none (each_given names given name)
  where
    here : (b : Bool) → bytes_eq first name ≡ b → (b || is_named name names) ≡ true
        → is_given first given ≡ true
        → (is_named name names ≡ true → is_given name given ≡ true)
        → is_given name given ≡ true
    here true same is there later =
        subst (λ (x : ByteList). is_given x given ≡ true) ((bytes_eq-Decides first name).0 same)
        there
    here false same is there later = later is

    go : (b : Bool) → is_given first given ≡ b
        → cond b (first_absent names given) (Some first) ≡ None
        → (first_absent names given ≡ None → is_named name names ≡ true
        → is_given name given ≡ true)
        → is_given name given ≡ true
    go true there none later = here (bytes_eq first name) refl is there (later none)
    go false there none later = absurd (cc)

-- what has to be given is given
pub is_there : (f : Function) (args : ArgTrees) (w : Walked) (name : ByteList)
    → walked_of f args ≡ Ok w → is_named name (required f) ≡ true → is_given name w.given ≡ true
is_there f args w name e is =
    each_given (required f) w.given name (walked_parts f args w e).2 is

-- a parameter that has to be given has the shape of its key
mandatory_shape : (f : Function) (args : ArgTrees) (w : Walked) (key : ByteList) (s : Shape)
    → shape_of f key ≡ Some s → is_named key (required f) ≡ true → walked_of f args ≡ Ok w
    → HasShape s (param_at key w.given)
mandatory_shape f args w key s known named e =
    shape_at f (made_names f args) key s w known (walked_good f args w e)
    (is_there f args w key e named)

-- a number of this shape is within the limits
number_fits : (low high : ℕ) (p : Param) → HasShape (shape.Number low high) p
    → may_be_between low high (number_in p) ≡ true
number_fits low high (param.Number n) e = e
number_fits low high _ e = absurd e

-- as a count, too
count_fits : (low high other : ℕ) (p : Param) → HasShape (shape.Number low high) p
    → is_between low high (count_or other p) ≡ true
count_fits low high other (param.Number n) e = e
count_fits low high other _ e = absurd e

-- so is one of 16 bits
small_fits : (low high : ℕ) (p : Param) → HasShape (shape.Small low high) p
    → is_between low high (small_in p) ≡ true
small_fits low high (param.Small n) e = e
small_fits low high _ e = absurd e

-- the name of a topic or of a daemon is as long as it may be
id_fits : (p : Param) → HasShape shape.Id p → is_between 1 id_limit (length (text_in p)) ≡ true
id_fits (param.Plain text) e = e
id_fits _ e = absurd e

-- a query whose text is kept is what the text is read as
kept_read : (p : Param) → HasShape shape.KeptQuery p
    → read_of (kept_text_in p) ≡ Ok (kept_query_in p)
kept_read (param.KeptQuery query text) e = e
kept_read _ e = absurd e

-- the number of a group is within its limits
group_number : (p : Param) → group_fits p ≡ true → is_between 1 count_limit (group_in p).n ≡ true
group_number (param.Group op) e = e
group_number _ e = absurd (cc)

-- a number that may be left out is within its limits, where it is given
optional_fits : (f : Function) (args : ArgTrees) (w : Walked) (key : ByteList) (low high : ℕ)
    → shape_of f key ≡ Some (shape.Number low high) → walked_of f args ≡ Ok w
    → may_be_between low high (number_in (param_at key w.given)) ≡ true
optional_fits f args w key low high known e = go (is_given key w.given) refl
  where
    go : (b : Bool) → is_given key w.given ≡ b
        → may_be_between low high (number_in (param_at key w.given)) ≡ true
    go true is =
        number_fits low high (param_at key w.given)
        (shape_at f (made_names f args) key (shape.Number low high) w known
        (walked_good f args w e) is)
    go false is = rw (not_given key w.given is) refl

-- so is one in whose place another one stands that is
default_fits : (f : Function) (args : ArgTrees) (w : Walked) (key : ByteList)
    (low high other : ℕ) → shape_of f key ≡ Some (shape.Number low high)
    → is_between low high other ≡ true → walked_of f args ≡ Ok w
    → is_between low high (count_or other (param_at key w.given)) ≡ true
default_fits f args w key low high other known fits e = go (is_given key w.given) refl
  where
    go : (b : Bool) → is_given key w.given ≡ b
        → is_between low high (count_or other (param_at key w.given)) ≡ true
    go true is =
        count_fits low high other (param_at key w.given)
        (shape_at f (made_names f args) key (shape.Number low high) w known
        (walked_good f args w e) is)
    go false is = rw (not_given key w.given is) fits

-- the name of a topic or of a daemon, under its key
named_fits : (f : Function) (args : ArgTrees) (w : Walked) (key : ByteList)
    → shape_of f key ≡ Some shape.Id → is_named key (required f) ≡ true
    → walked_of f args ≡ Ok w
    → is_between 1 id_limit (length (text_in (param_at key w.given))) ≡ true
named_fits f args w key known named e =
    id_fits (param_at key w.given) (mandatory_shape f args w key shape.Id known named e)

-- the operator of a function with parameters that were read is well over as many inputs as it takes
pub operator_well : (f : Function) (args : ArgTrees) (w : Walked) (inputs : ℕ)
    → walked_of f args ≡ Ok w → takes_all f inputs ≡ true
    → is_well (operator_of f w) inputs ≡ true
operator_well Search args w inputs e takes =
    both (inputs == 0) _ takes (optional_fits Search args w (codes "rows") 0 row_limit refl e)
operator_well Tuple args w inputs e takes = takes
operator_well Select args w inputs e takes = takes
operator_well Having args w inputs e takes = takes
operator_well Sort args w inputs e takes = takes
operator_well Top args w inputs e takes =
    both (inputs == 1) _ takes
    (count_fits 1 count_limit 0 (param_at (codes "n") w.given)
    (mandatory_shape Top args w (codes "n") (shape.Number 1 count_limit) refl refl e))
operator_well Unique args w inputs e takes = takes
operator_well Merge args w inputs e takes = takes
operator_well Reduce args w inputs e takes =
    let good = walked_good Reduce args w e in
    let made = made_names Reduce args in
    let by = names_in (param_at (codes "by") w.given) in
    let op = group_in (param_at (codes "group") w.given) in
    let fits : is_between 1 count_limit op.n ≡ true =
    group_number (param_at (codes "group") w.given)
    (group_at Reduce made w refl good (is_there Reduce args w (codes "group") e refl)) in
    both (inputs == 1 && is_between 1 count_limit op.n) (not (is_named (codes "group") by))
    (both (inputs == 1) (is_between 1 count_limit op.n) takes fits)
    (ap not
    (either_false (is_named (codes "group") by) false (key_free Reduce made (codes "by") w good)).0)
operator_well Rollup args w inputs e takes =
    let good = walked_good Rollup args w e in
    let made = made_names Rollup args in
    let over = names_in (param_at (codes "over") w.given) in
    both (inputs == 1) _ takes
    (metrics_free Rollup over made w.given refl (key_free Rollup made (codes "over") w good) good)
operator_well InnerJoin args w inputs e takes = takes
operator_well LeftOuterJoin args w inputs e takes = takes
operator_well Intersect args w inputs e takes = takes
operator_well Complement args w inputs e takes = takes
operator_well HashJoin args w inputs e takes = takes
operator_well OuterHashJoin args w inputs e takes = takes
operator_well Parallel args w inputs e takes =
    both (inputs == 1) _ takes
    (small_fits 1 worker_limit (param_at (codes "workers") w.given)
    (mandatory_shape Parallel args w (codes "workers") (shape.Small 1 worker_limit) refl refl e))
operator_well Topic args w inputs e takes =
    both (inputs == 0) _ takes
    (both (is_between 1 id_limit (length (text_in (param_at (codes "id") w.given)))) _
    (named_fits Topic args w (codes "id") refl refl e)
    (optional_fits Topic args w (codes "initialCheckpoint") 0 checkpoint_limit refl e))
operator_well Update args w inputs e takes =
    both (inputs == 1) _ takes
    (default_fits Update args w (codes "batchSize") 1 batch_limit 250 refl refl e)
operator_well Commit args w inputs e takes =
    both (inputs == 1) _ takes
    (optional_fits Commit args w (codes "batchSize") 0 batch_limit refl e)
operator_well Daemon args w inputs e takes =
    let interval = count_or 1000 (param_at (codes "runInterval") w.given) in
    both (inputs == 1 && is_between 0 interval_limit interval) _
    (both (inputs == 1) (is_between 0 interval_limit interval) takes
    (default_fits Daemon args w (codes "runInterval") 0 interval_limit 1000 refl refl e))
    (named_fits Daemon args w (codes "id") refl refl e)

-- what it keeps of a text is read from it
pub operator_read : (f : Function) (args : ArgTrees) (w : Walked) → walked_of f args ≡ Ok w
    → IsRead (operator_of f w)
operator_read Search args w e = tt
operator_read Tuple args w e = tt
operator_read Select args w e = tt
operator_read Having args w e = tt
operator_read Sort args w e = tt
operator_read Top args w e = tt
operator_read Unique args w e = tt
operator_read Merge args w e = tt
operator_read Reduce args w e = tt
operator_read Rollup args w e = tt
operator_read InnerJoin args w e = tt
operator_read LeftOuterJoin args w e = tt
operator_read Intersect args w e = tt
operator_read Complement args w e = tt
operator_read HashJoin args w e = tt
operator_read OuterHashJoin args w e = tt
operator_read Parallel args w e = tt
operator_read Topic args w e =
    kept_read (param_at (codes "q") w.given)
    (mandatory_shape Topic args w (codes "q") shape.KeptQuery refl refl e)
operator_read Update args w e = tt
operator_read Commit args w e = tt
operator_read Daemon args w e = tt
