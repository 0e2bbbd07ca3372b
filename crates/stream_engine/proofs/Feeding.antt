-- The lists with which a stream is fed, one after another.
use Rattle.std.proofs.Common.{◌≡◌, ℕ, ◌+◌, ◌<◌, ◌==◌, List, [], ◌∷◌, ◌++◌, length, get_or, drop}
use Rattle.std.proofs.Common.{true, false, Option, Some, None, refl, ap, sym, ◌∙◌, subst}
use Rattle.std.proofs.Common.{append_assoc, arith, IsSome, inl, inr, ◌⊎◌}
use Rattle.std.specs.Prelude.{is_some}
use Rattle.std.proofs.lemmas.Bool.{eqb-true}
use Rattle.std.proofs.lemmas.List.{append_cancel_left, map-append}
use Rattle.tuple_values.specs.Document.{ByteList, Doc}
use Rattle.expr_types.specs.ExprTree.{search, tuple, select, having, sort, top, unique}
use Rattle.expr_types.specs.ExprTree.{merge, reduce, rollup, inner_join, left_outer_join, intersect}
use Rattle.expr_types.specs.ExprTree.{complement, hash_join, outer_hash_join, in_parallel, topic}
use Rattle.expr_types.specs.ExprTree.{update, commit, daemon}
use Rattle.expr_types.specs.ExprTree.{ExprTree, node, ExprTrees, no_exprs, an_expr, expr_list}
use Rattle.expr_types.specs.ExprTree.{inputs_of, inputs_in, operator_in}
use Rattle.expr_types.specs.Limits.{is_between, worker_limit}
use Rattle.expr_types.specs.Lists.{list_of}
use Rattle.expr_types.specs.Planned.{AreWell}
use Rattle.expr_types.specs.Rules.{Collections}
use Rattle.expr_types.proofs.TreeLemmas.{node-parts}
use Rattle.expr_check.specs.Parts.{PartTree, parallels_of, parallels_in, parts_at}
use Rattle.expr_check.specs.Rules.{split_by}
use Rattle.expr_check.specs.Splits.{Split}
use Rattle.expr_check.specs.Walk.{keys_of}
use Rattle.expr_check.proofs.NeedLemmas.{and_first}
use Rattle.part_laws.specs.Parted.{list_in_part, MayBeParted}
use Rattle.part_laws.proofs.LawLemmas.{whole_list}
use Rattle.stream_engine.specs.Fed.{lists_split, fed_of, fed_in, BeginsWith}
use Rattle.stream_engine.proofs.Openings.{from_place}

-- of two lists of lists the first stand first
pub begins_first : (these more lists : List (List Doc)) → BeginsWith (these ++ more) lists
    → BeginsWith these lists
begins_first these more lists b = (more ++ b.0, b.1 ∙ append_assoc these more b.0)

-- and where they are taken off the others do
pub begins_rest : (these more lists now : List (List Doc)) → BeginsWith (these ++ more) lists
    → lists ≡ these ++ now → BeginsWith more now
begins_rest these more lists now b taken = (
  b.0,
  append_cancel_left these now (more ++ b.0)
      (sym taken ∙ b.1 ∙ append_assoc these more b.0),
)

-- inputs from a place on are fed with the lists of the one there and then with those of the rest
pub fed_more : (docs : Collections) (exprs : List ExprTree) (k : ℕ) (e : ExprTree)
    → k < length exprs → e ≡ get_or exprs k e
    → fed_in docs (inputs_of (drop k exprs))
    ≡ fed_of docs e ++ fed_in docs (inputs_of (drop (k + 1) exprs))
fed_more docs exprs k e lt is =
    ap (λ l. fed_in docs (inputs_of l)) (from_place exprs k e lt is)
    ∙ map-append (λ (p : PartTree). list_of docs p.input) (parallels_of e)
    (parallels_in (inputs_of (drop (k + 1) exprs)))

-- the one there finds its lists first
pub begins_here : (docs : Collections) (exprs : List ExprTree) (k : ℕ) (e : ExprTree)
    (lists : List (List Doc)) → k < length exprs → e ≡ get_or exprs k e
    → BeginsWith (fed_in docs (inputs_of (drop k exprs))) lists
    → BeginsWith (fed_of docs e) lists
begins_here docs exprs k e lists lt is b =
    begins_first (fed_of docs e) (fed_in docs (inputs_of (drop (k + 1) exprs))) lists
    (subst (λ these. BeginsWith these lists) (fed_more docs exprs k e lt is) b)

-- and leaves those of the rest
pub begins_behind : (docs : Collections) (exprs : List ExprTree) (k : ℕ) (e : ExprTree)
    (lists now : List (List Doc)) → k < length exprs → e ≡ get_or exprs k e
    → BeginsWith (fed_in docs (inputs_of (drop k exprs))) lists
    → lists ≡ fed_of docs e ++ now
    → BeginsWith (fed_in docs (inputs_of (drop (k + 1) exprs))) now
begins_behind docs exprs k e lists now lt is b taken =
    begins_rest (fed_of docs e) (fed_in docs (inputs_of (drop (k + 1) exprs))) lists now
    (subst (λ these. BeginsWith these lists) (fed_more docs exprs k e lt is) b) taken

-- whatever is behind what the rest takes is behind what the one there and the rest take
pub taken_more : (docs : Collections) (exprs : List ExprTree) (k : ℕ) (e : ExprTree)
    (lists now rest : List (List Doc)) → k < length exprs → e ≡ get_or exprs k e
    → lists ≡ fed_of docs e ++ now
    → now ≡ fed_in docs (inputs_of (drop (k + 1) exprs)) ++ rest
    → lists ≡ fed_in docs (inputs_of (drop k exprs)) ++ rest
taken_more docs exprs k e lists now rest lt is taken behind =
    taken
    ∙ ap (λ w. fed_of docs e ++ w) behind
    ∙ sym (append_assoc (fed_of docs e) (fed_in docs (inputs_of (drop (k + 1) exprs))) rest)
    ∙ ap (λ w. w ++ rest) (sym (fed_more docs exprs k e lt is))

-- what isn't split is fed with the lists of its inputs
unsplit_by : (docs : Collections) (s : Option Split) (ts : ExprTrees) → is_some s ≡ false
    → lists_split docs (parts_at s ts (parallels_in ts)) ≡ fed_in docs ts
unsplit_by docs None ts e = refl
unsplit_by docs (Some split) ts e = absurd (cc)

pub fed-parts : (docs : Collections) (t : ExprTree)
    → is_some (split_by (operator_in t)) ≡ false
    → fed_of docs t ≡ fed_in docs (inputs_of (inputs_in t))
fed-parts docs t e =
    ap (fed_of docs) (sym (node-parts t))
    ∙ unsplit_by docs (split_by (operator_in t)) (inputs_of (inputs_in t)) e

-- what is so of a parallel: it is fed with one list, which is its own, and has no keys
pub record IsFedOne (docs : Collections) (t : ExprTree) : Type 0 where
  pub list : List Doc
  pub fed : fed_of docs t ≡ list ∷ []
  pub whole : list_of docs t ≡ list
  pub keyless : keys_of t ≡ None

pub fed_one : (docs : Collections) (t : ExprTree) → is_some (split_by (operator_in t)) ≡ true
    → AreWell t → IsFedOne docs t
fed_one docs (node (search p) ts) e well = absurd (cc)
fed_one docs (node (tuple fields) ts) e well = absurd (cc)
fed_one docs (node (select items) ts) e well = absurd (cc)
fed_one docs (node (having condition) ts) e well = absurd (cc)
fed_one docs (node (sort by) ts) e well = absurd (cc)
fed_one docs (node (top n by) ts) e well = absurd (cc)
fed_one docs (node (unique over) ts) e well = absurd (cc)
fed_one docs (node (merge on) ts) e well = absurd (cc)
fed_one docs (node (reduce by op) ts) e well = absurd (cc)
fed_one docs (node (rollup over metrics) ts) e well = absurd (cc)
fed_one docs (node (inner_join on) ts) e well = absurd (cc)
fed_one docs (node (left_outer_join on) ts) e well = absurd (cc)
fed_one docs (node (intersect on) ts) e well = absurd (cc)
fed_one docs (node (complement on) ts) e well = absurd (cc)
fed_one docs (node (hash_join on) ts) e well = absurd (cc)
fed_one docs (node (outer_hash_join on) ts) e well = absurd (cc)
fed_one docs (node (in_parallel collection workers by) no_exprs) e well = absurd (cc)
fed_one docs (node (in_parallel collection workers by) (an_expr u no_exprs)) e well =
    record { list = list_of docs u; fed = refl; whole = refl; keyless = refl }
fed_one docs (node (in_parallel collection workers by) (an_expr u (an_expr v ts))) e well =
    let many = length (expr_list (an_expr u (an_expr v ts))) in
    let one =
    eqb-true many 1 (and_first (many == 1) (is_between 1 worker_limit workers) well.0) in
    absurd (omega arith)
fed_one docs (node (topic p) ts) e well = absurd (cc)
fed_one docs (node (update dest size) ts) e well = absurd (cc)
fed_one docs (node (commit dest size) ts) e well = absurd (cc)
fed_one docs (node (daemon id interval terminate) ts) e well = absurd (cc)

-- what has no keys may be parted in one part alone
one_part : (parts : ℕ) (keys : Option (List ByteList)) → keys ≡ None
    → (parts ≡ 1) ⊎ IsSome keys → parts ≡ 1
one_part parts keys none (inl one) = one
one_part parts None none (inr some) = absurd (cc)
one_part parts (Some keys) none (inr some) = absurd (cc)

-- so where the lists of a parallel stand first there is one
pub some_fed : (docs : Collections) (t : ExprTree) (lists : List (List Doc))
    → is_some (split_by (operator_in t)) ≡ true → AreWell t → BeginsWith (fed_of docs t) lists
    → 0 < length lists
some_fed docs t lists split well b =
    let one = fed_one docs t split well in
    let long : length lists ≡ length (one.list ∷ b.0) =
    ap (λ (l : List (List Doc)). length l) (b.1 ∙ ap (λ w. w ++ b.0) one.fed) in
    omega (arith, long)

-- and the first list is that of the parallel in its only part
pub fed_list : (docs : Collections) (index parts : ℕ) (t : ExprTree) (first : List Doc)
    (lists now : List (List Doc)) → is_some (split_by (operator_in t)) ≡ true → AreWell t
    → index < parts → MayBeParted parts t → BeginsWith (fed_of docs t) lists
    → lists ≡ first ∷ now
    → (first ≡ list_in_part docs index parts t) × (lists ≡ fed_of docs t ++ now)
fed_list docs index parts t first lists now split well within parted b taken =
    let one = fed_one docs t split well in
    let of : parts ≡ 1 = one_part parts (keys_of t) one.keyless parted in
    let at : index ≡ 0 = omega arith in
    let same : (first ∷ now) ≡ (one.list ∷ b.0) =
    sym taken ∙ b.1 ∙ ap (λ w. w ++ b.0) one.fed in
    let head : first ≡ one.list = cc in (
      head ∙ sym one.whole ∙ sym (whole_list docs t)
          ∙ ap (λ (n : ℕ). list_in_part docs 0 n t) (sym of)
          ∙ ap (λ (n : ℕ). list_in_part docs n parts t) (sym at),
      taken ∙ ap (λ w. w ∷ now) head ∙ ap (λ w. w ++ now) (sym one.fed),
    )

-- lists that begin with some are those lists, where nothing stands behind them
pub begins_all : (these lists : List (List Doc)) → lists ≡ these → BeginsWith these lists
begins_all these lists e = ([], e ∙ sym (behind these)) where
  behind : (l : List (List Doc)) → l ++ [] ≡ l
  behind [] = refl
  behind (x ∷ l) = ap (λ w. x ∷ w) (behind l)

-- the only part of one is the whole list
pub whole_part : (docs : Collections) (index parts : ℕ) (t : ExprTree) → index < parts
    → parts ≡ 1 → list_in_part docs index parts t ≡ list_of docs t
whole_part docs index parts t within one =
    let at : index ≡ 0 = omega arith in
    ap (λ (n : ℕ). list_in_part docs n parts t) at
    ∙ ap (λ (n : ℕ). list_in_part docs 0 n t) one
    ∙ whole_list docs t
