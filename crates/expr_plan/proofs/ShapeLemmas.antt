-- A value that is read under a key has the key's shape, and a group that is read is within limits.
use Rattle.std.specs.Prelude.{◌==◌}
use Rattle.std.proofs.Common.{◌≡◌, ℕ, ℤ, pos, negsuc, List, Bool, true, false, cond}
use Rattle.std.proofs.Common.{Option, Some, None, Result, Ok, Err, codes, refl}
use Rattle.std.proofs.Common.{subst, length}
use Rattle.std.specs.Str.{bytes_eq}
use Rattle.tuple_values.specs.Document.{ByteList, is_named}
use Rattle.tuple_values.specs.Whole.{whole_of}
use Rattle.query_syntax.specs.Reading.{read_of}
use Rattle.query_syntax.specs.Tree.{ClauseTree}
use Rattle.sort_spec.specs.Reading.{Reading, said, stuck, sort_of, on_of, names_of}
use Rattle.sort_spec.specs.declared.pair.OnPair.{OnPair}
use Rattle.sort_spec.specs.declared.term.SortTerm.{SortTerm}
use Rattle.expr_reader.specs.Tree.{CallTree, call}
use Rattle.expr_reader.specs.declared.call.Word.{Word}
use Rattle.expr_types.specs.Limits.{is_between, count_limit, id_limit}
use Rattle.expr_types.specs.declared.item.GroupOp.{GroupOp}
use Rattle.expr_plan.specs.Arguments.{may_be_call}
use Rattle.expr_plan.specs.Fault.{and_then}
use Rattle.expr_plan.specs.GroupReading.{group_of_call, grouped, group_by}
use Rattle.expr_plan.specs.Literals.{within, flag_of}
use Rattle.expr_plan.specs.Shapes.{bad, read_as, number_param, names_param, fields_param}
use Rattle.expr_plan.specs.Shapes.{sort_param, pairs_param, query_param, kept_param}
use Rattle.expr_plan.specs.Shapes.{small_param, flag_param}
use Rattle.expr_plan.specs.Words.{arg_list, word_under}
use Rattle.expr_plan.specs.declared.fault.PlanFault.{PlanFault}
use Rattle.expr_plan.specs.declared.row.Function.{Function}
use Rattle.expr_plan.specs.declared.param.Param.{Param}
use Rattle.expr_plan.specs.declared.param.Param.TheVariants as param
use Rattle.expr_plan.specs.declared.row.Shape.{Shape}
use Rattle.expr_plan.specs.declared.row.Shape.TheVariants as shape

-- a value without a fault
abbrev pub fine : {X : Type 0} → X → Result X PlanFault
fine x = Ok x

-- values without a fault that are equal
pub fine_same : {X : Type 0} (x y : X) → fine x ≡ Ok y → x ≡ y
fine_same x y e = cc

-- two parts that have no fault, of which the second comes of what the first gives
pub and_then-ok : {X Y : Type 0} (first : Result X PlanFault) (next : X → Result Y PlanFault)
    (y : Y) → and_then first next ≡ Ok y → (x : X) × (first ≡ Ok x) × (next x ≡ Ok y)
and_then-ok (Ok x) next y e = (x, refl, e)
and_then-ok (Err f) next y e = absurd (cc)

-- a number that was read within limits is within them
within_between : (low high : ℕ) (o : Option ℤ) (n : ℕ) → within low high o ≡ Some n
    → is_between low high n ≡ true
within_between low high None n e = absurd (cc)
within_between low high (Some (pos m)) n e = go (is_between low high m) refl e
  where
    go : (b : Bool) → is_between low high m ≡ b → cond b (Some m) None ≡ Some n
        → is_between low high n ≡ true
    go true is e = let same : m ≡ n = cc in subst (λ x. is_between low high x ≡ true) same is
    go false is e = absurd (cc)
within_between low high (Some (negsuc m)) n e = absurd (cc)

-- a parameter is what a value of this shape is read as
abbrev pub HasShape : Shape → Param → Type 0
HasShape shape.Literal (param.Literal value) = Unit {0}
HasShape shape.Literal _ = ⊥
HasShape shape.Anything param.Nothing = Unit {0}
HasShape shape.Anything _ = ⊥
HasShape shape.Names (param.Names names) = Unit {0}
HasShape shape.Names _ = ⊥
HasShape shape.FieldNames (param.Names names) = Unit {0}
HasShape shape.FieldNames _ = ⊥
HasShape shape.Sort (param.Sort terms) = Unit {0}
HasShape shape.Sort _ = ⊥
HasShape shape.Pairs (param.Pairs pairs) = Unit {0}
HasShape shape.Pairs _ = ⊥
HasShape shape.Query (param.Query query) = Unit {0}
HasShape shape.Query _ = ⊥
HasShape shape.KeptQuery (param.KeptQuery query text) = read_of text ≡ Ok query.clauses
HasShape shape.KeptQuery _ = ⊥
HasShape (shape.Number low high) (param.Number n) = is_between low high n ≡ true
HasShape (shape.Number low high) _ = ⊥
HasShape (shape.Small low high) (param.Small n) = is_between low high n ≡ true
HasShape (shape.Small low high) _ = ⊥
HasShape shape.Id (param.Plain text) = is_between 1 id_limit (length text) ≡ true
HasShape shape.Id _ = ⊥
HasShape shape.Flag (param.Flag flag) = Unit {0}
HasShape shape.Flag _ = ⊥
HasShape shape.True param.Nothing = Unit {0}
HasShape shape.True _ = ⊥
HasShape shape.Input param.Nothing = Unit {0}
HasShape shape.Input _ = ⊥

-- a value that is read under a key has the key's shape
pub read_has : (s : Shape) (f : Function) (key text : ByteList) (quoted : Bool) (p : Param)
    → read_as s f key text quoted ≡ Ok p → HasShape s p
read_has shape.Literal f key text quoted p e =
    subst (λ x. HasShape shape.Literal x) (fine_same _ p e) tt
read_has shape.Anything f key text quoted p e =
    subst (λ x. HasShape shape.Anything x) (fine_same param.Nothing p e) tt
read_has shape.Names f key text quoted p e = go (names_of text) e
  where
    go : (r : Reading (List ByteList)) → names_param f key r ≡ Ok p
        → HasShape shape.Names p
    go (stuck at) e = absurd (cc)
    go (said names) e =
        subst (λ x. HasShape shape.Names x) (fine_same (param.Names names) p e) tt
read_has shape.FieldNames f key text quoted p e = go (names_of text) e
  where
    is_free : (b : Bool) (names : List ByteList)
        → cond b (bad f key) (fine (param.Names names)) ≡ Ok p
        → HasShape shape.FieldNames p
    is_free true names e = absurd (cc)
    is_free false names e =
        subst (λ x. HasShape shape.FieldNames x) (fine_same (param.Names names) p e) tt

    go : (r : Reading (List ByteList)) → fields_param f key r ≡ Ok p
        → HasShape shape.FieldNames p
    go (stuck at) e = absurd (cc)
    go (said names) e = is_free (is_named (codes "*") names) names e
read_has shape.Sort f key text quoted p e = go (sort_of text) e
  where
    go : (r : Reading (List SortTerm)) → sort_param r ≡ Ok p → HasShape shape.Sort p
    go (stuck at) e = absurd (cc)
    go (said terms) e =
        subst (λ x. HasShape shape.Sort x) (fine_same (param.Sort terms) p e) tt
read_has shape.Pairs f key text quoted p e = go (on_of text) e
  where
    go : (r : Reading (List OnPair)) → pairs_param r ≡ Ok p → HasShape shape.Pairs p
    go (stuck at) e = absurd (cc)
    go (said pairs) e =
        subst (λ x. HasShape shape.Pairs x) (fine_same (param.Pairs pairs) p e) tt
read_has shape.Query f key text quoted p e = go (read_of text) e
  where
    go : (r : Result (List ClauseTree) ℕ) → query_param r ≡ Ok p
        → HasShape shape.Query p
    go (Err at) e = absurd (cc)
    go (Ok clauses) e =
        subst (λ x. HasShape shape.Query x)
        (fine_same (param.Query (record { clauses = clauses })) p e) tt
read_has shape.KeptQuery f key text quoted p e = go (read_of text) refl e
  where
    go : (r : Result (List ClauseTree) ℕ) → read_of text ≡ r → kept_param text r ≡ Ok p
        → HasShape shape.KeptQuery p
    go (Err at) is e = absurd (cc)
    go (Ok clauses) is e =
        subst (λ x. HasShape shape.KeptQuery x)
        (fine_same (param.KeptQuery (record { clauses = clauses }) text) p e) is
read_has (shape.Number low high) f key text quoted p e =
    go (within low high (whole_of text)) refl e
  where
    go : (o : Option ℕ) → within low high (whole_of text) ≡ o → number_param f key o ≡ Ok p
        → HasShape (shape.Number low high) p
    go None is e = absurd (cc)
    go (Some n) is e =
        subst (λ x. HasShape (shape.Number low high) x) (fine_same (param.Number n) p e)
        (within_between low high (whole_of text) n is)
read_has (shape.Small low high) f key text quoted p e =
    go (within low high (whole_of text)) refl e
  where
    go : (o : Option ℕ) → within low high (whole_of text) ≡ o → small_param f key o ≡ Ok p
        → HasShape (shape.Small low high) p
    go None is e = absurd (cc)
    go (Some n) is e =
        subst (λ x. HasShape (shape.Small low high) x) (fine_same (param.Small n) p e)
        (within_between low high (whole_of text) n is)
read_has shape.Id f key text quoted p e = go (is_between 1 id_limit (length text)) refl e
  where
    go : (b : Bool) → is_between 1 id_limit (length text) ≡ b
        → cond b (fine (param.Plain text)) (bad f key) ≡ Ok p → HasShape shape.Id p
    go true is e = subst (λ x. HasShape shape.Id x) (fine_same (param.Plain text) p e) is
    go false is e = absurd (cc)
read_has shape.Flag f key text quoted p e = go (flag_of text) e
  where
    go : (o : Option Bool) → flag_param f key o ≡ Ok p → HasShape shape.Flag p
    go None e = absurd (cc)
    go (Some flag) e =
        subst (λ x. HasShape shape.Flag x) (fine_same (param.Flag flag) p e) tt
read_has shape.True f key text quoted p e = go (bytes_eq text (codes "true")) e
  where
    go : (b : Bool) → cond b (fine param.Nothing) (bad f key) ≡ Ok p → HasShape shape.True p
    go true e = subst (λ x. HasShape shape.True x) (fine_same param.Nothing p e) tt
    go false e = absurd (cc)
read_has shape.Input f key text quoted p e = absurd (cc)

-- what may be a call is nothing as a parameter
pub call_has : (s : Shape) → may_be_call s ≡ true → HasShape s param.Nothing
call_has shape.Literal e = absurd (cc)
call_has shape.Anything e = tt
call_has shape.Names e = absurd (cc)
call_has shape.FieldNames e = absurd (cc)
call_has shape.Sort e = absurd (cc)
call_has shape.Pairs e = absurd (cc)
call_has shape.Query e = absurd (cc)
call_has shape.KeptQuery e = absurd (cc)
call_has (shape.Number low high) e = absurd (cc)
call_has (shape.Small low high) e = absurd (cc)
call_has shape.Id e = absurd (cc)
call_has shape.Flag e = absurd (cc)
call_has shape.True e = absurd (cc)
call_has shape.Input e = tt

-- whether a parameter is a group of a number within its limits
abbrev pub group_fits : Param → Bool
group_fits (param.Group op) = is_between 1 count_limit op.n
group_fits _ = false

-- so is a group that is read
pub group_read : (c : CallTree) (op : GroupOp) → group_of_call c ≡ Some op
    → group_fits (param.Group op) ≡ true
group_read (call name args) op e = go (length (arg_list args) == 2) e
  where
    parts : (r : Reading (List SortTerm)) (text : ByteList) (o : Option ℕ)
        → within 1 count_limit (whole_of text) ≡ o → group_by r o ≡ Some op
        → group_fits (param.Group op) ≡ true
    parts (stuck at) text o is e = absurd (cc)
    parts (said terms) text None is e = absurd (cc)
    parts (said terms) text (Some n) is e =
        let same : record { sort = terms; n = n } ≡ op = cc in
        subst (λ (x : GroupOp). is_between 1 count_limit x.n ≡ true) same
        (within_between 1 count_limit (whole_of text) n is)

    words : (by n : Option Word) → grouped by n ≡ Some op → group_fits (param.Group op) ≡ true
    words None n e = absurd (cc)
    words (Some by) None e = absurd (cc)
    words (Some by) (Some n) e =
        parts (sort_of by.text) n.text (within 1 count_limit (whole_of n.text)) refl e

    go : (b : Bool)
        → cond b (grouped (word_under (codes "sort") (arg_list args))
        (word_under (codes "n") (arg_list args))) None ≡ Some op
        → group_fits (param.Group op) ≡ true
    go true e =
        words (word_under (codes "sort") (arg_list args)) (word_under (codes "n") (arg_list args)) e
    go false e = absurd (cc)
