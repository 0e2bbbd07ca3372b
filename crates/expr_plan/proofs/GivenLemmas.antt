-- What is left of the parameters once one is taken, and the fields of several.
use Rattle.std.proofs.Common.{◌≡◌, ℕ, Option, List, [], ◌∷◌, ◌++◌, Bool, true, false, cond, codes}
use Rattle.std.proofs.Common.{refl, ap, subst, sym, ◌∙◌}
use Rattle.std.specs.List.{cons_option}
use Rattle.std.specs.Str.{bytes_eq}
use Rattle.std.proofs.lemmas.List.Elements.{filter_map-append}
use Rattle.std.proofs.lemmas.Slice.Eq.{bytes_eq-Decides}
use Rattle.tuple_values.specs.Document.{ByteList, Doc, is_named}
use Rattle.expr_plan.specs.Given.{param_at, taken, text_in, names_in, names_maybe, sort_in}
use Rattle.expr_plan.specs.Given.{query_in, number_in, item_in, items_in, metric_in, metrics_in}
use Rattle.expr_plan.specs.Given.{kept_query_in, kept_text_in}
use Rattle.expr_types.specs.ExprTree.{ExprTree, node, inputs_of, search, topic}
use Rattle.expr_plan.specs.Operators.{with_field, with_fields, search_of, topic_of}
use Rattle.query_syntax.specs.declared.query.Query.{Query}
use Rattle.sort_spec.specs.declared.term.SortTerm.{SortTerm}
use Rattle.expr_types.specs.ExprTree.{expr_tree, expr_step}
use Rattle.expr_types.specs.declared.expr.Expr.TheOpen.{Expr-F}
use Rattle.expr_types.specs.declared.expr.Expr.TheFolds.{fold-roll-Expr}
use Rattle.expr_types.specs.declared.expr.Expr.TheVariants as expr
use Rattle.expr_plan.specs.declared.param.Given.{Given}
use Rattle.expr_plan.specs.declared.param.Param.TheVariants.{Nothing}
use Rattle.expr_plan.proofs.KeptLemmas.{either_false}

-- a text that is one name isn't another
other_name : (text name other : ByteList) → bytes_eq name other ≡ false → bytes_eq text name ≡ true
    → bytes_eq text other ≡ false
other_name text name other apart is =
    subst (λ (t : ByteList). bytes_eq t other ≡ false) (sym ((bytes_eq-Decides text name).0 is)) apart

-- the parameter of another name stays
pub param_at-taken : (other name : ByteList) (given : List Given) → bytes_eq name other ≡ false
    → param_at other (taken name given) ≡ param_at other given
param_at-taken other name [] apart = refl
param_at-taken other name (g ∷ given) apart =
    go (bytes_eq g.name name) refl (param_at-taken other name given apart)
  where
    go : (b : Bool) → bytes_eq g.name name ≡ b
        → param_at other (taken name given) ≡ param_at other given
        → param_at other (cond b (record g { param = Nothing } ∷ given) (g ∷ taken name given))
        ≡ param_at other (g ∷ given)
    go true is stays = rw (other_name g.name name other apart is) refl
    go false is stays = rw stays refl

-- the fields of one more parameter
pub with_fields-push : (doc : Doc) (given : List Given) (g : Given)
    → with_fields doc (given ++ g ∷ []) ≡ with_field (with_fields doc given) g.name g.param
with_fields-push doc [] g = refl
with_fields-push doc (first ∷ given) g =
    with_fields-push (with_field doc first.name first.param) given g

-- and where one was taken
pub param_at-stays : (other name : ByteList) (given rest : List Given) → rest ≡ taken name given
    → bytes_eq name other ≡ false → param_at other rest ≡ param_at other given
param_at-stays other name given rest is apart = rw is (param_at-taken other name given apart)

-- the parameters, with nothing in place of the first of each name
abbrev pub taken_all : List ByteList → List Given → List Given
taken_all [] given = given
taken_all (name ∷ names) given = taken_all names (taken name given)

-- the parameter of a name that is none of them stays
param_at-taken_all : (other : ByteList) (names : List ByteList) (given : List Given)
    → is_named other names ≡ false
    → param_at other (taken_all names given) ≡ param_at other given
param_at-taken_all other [] given apart = refl
param_at-taken_all other (name ∷ names) given apart =
    let parts = either_false (bytes_eq name other) (is_named other names) apart in
    param_at-taken_all other names (taken name given) parts.1
    ∙ param_at-taken other name given parts.0

-- and where all of them were taken
pub stays_all : (other : ByteList) (names : List ByteList) (given rest : List Given)
    → rest ≡ taken_all names given → is_named other names ≡ false
    → param_at other rest ≡ param_at other given
stays_all other names given rest is apart =
    rw is (param_at-taken_all other names given apart)

-- a search's parameters, each where those before it were taken, are those of the whole
pub search_found : (g g1 g2 g3 g4 g5 : List Given)
    → g1 ≡ taken (codes "collection") g → g2 ≡ taken (codes "q") g1 → g3 ≡ taken (codes "fl") g2
    → g4 ≡ taken (codes "sort") g3 → g5 ≡ taken (codes "rows") g4
    → search_of g ≡ search (record {
      collection = text_in (param_at (codes "collection") g);
      q = query_in (param_at (codes "q") g1);
      fl = names_in (param_at (codes "fl") g2);
      sort = sort_in (param_at (codes "sort") g3);
      rows = number_in (param_at (codes "rows") g4);
      partition_keys = names_maybe (param_at (codes "partitionKeys") g5);
    })
search_found g g1 g2 g3 g4 g5 e1 e2 e3 e4 e5 =
    let n2 = codes "collection" ∷ codes "q" ∷ [] in
    let n3 = codes "collection" ∷ codes "q" ∷ codes "fl" ∷ [] in
    let n4 = codes "collection" ∷ codes "q" ∷ codes "fl" ∷ codes "sort" ∷ [] in
    let n5 = codes "collection" ∷ codes "q" ∷ codes "fl" ∷ codes "sort" ∷ codes "rows" ∷ [] in
    let t2 : g2 ≡ taken_all n2 g = e2 ∙ ap (taken (codes "q")) e1 in
    let t3 : g3 ≡ taken_all n3 g = e3 ∙ ap (taken (codes "fl")) t2 in
    let t4 : g4 ≡ taken_all n4 g = e4 ∙ ap (taken (codes "sort")) t3 in
    let t5 : g5 ≡ taken_all n5 g = e5 ∙ ap (taken (codes "rows")) t4 in
    let q : param_at (codes "q") g1 ≡ param_at (codes "q") g =
    stays_all (codes "q") (codes "collection" ∷ []) g g1 e1 refl in
    let fl : param_at (codes "fl") g2 ≡ param_at (codes "fl") g =
    stays_all (codes "fl") n2 g g2 t2 refl in
    let by : param_at (codes "sort") g3 ≡ param_at (codes "sort") g =
    stays_all (codes "sort") n3 g g3 t3 refl in
    let rows : param_at (codes "rows") g4 ≡ param_at (codes "rows") g =
    stays_all (codes "rows") n4 g g4 t4 refl in
    let keys : param_at (codes "partitionKeys") g5 ≡ param_at (codes "partitionKeys") g =
    stays_all (codes "partitionKeys") n5 g g5 t5 refl in
    rw (q, fl, by, rows, keys) refl

-- a topic's parameters, too
pub topic_found : (g g1 g2 g3 g4 g5 : List Given)
    → g1 ≡ taken (codes "checkpointCollection") g → g2 ≡ taken (codes "collection") g1
    → g3 ≡ taken (codes "id") g2 → g4 ≡ taken (codes "q") g3 → g5 ≡ taken (codes "fl") g4
    → topic_of g ≡ topic (record {
      checkpoints = text_in (param_at (codes "checkpointCollection") g);
      collection = text_in (param_at (codes "collection") g1);
      id = text_in (param_at (codes "id") g2);
      q = kept_query_in (param_at (codes "q") g3);
      q_text = kept_text_in (param_at (codes "q") g3);
      fl = names_in (param_at (codes "fl") g4);
      init = number_in (param_at (codes "initialCheckpoint") g5);
    })
topic_found g g1 g2 g3 g4 g5 e1 e2 e3 e4 e5 =
    let n1 = codes "checkpointCollection" ∷ [] in
    let n2 = codes "checkpointCollection" ∷ codes "collection" ∷ [] in
    let n3 = codes "checkpointCollection" ∷ codes "collection" ∷ codes "id" ∷ [] in
    let n4 = codes "checkpointCollection" ∷ codes "collection" ∷ codes "id" ∷ codes "q" ∷ [] in
    let n5 =
    codes "checkpointCollection" ∷ codes "collection" ∷ codes "id" ∷ codes "q" ∷ codes "fl"
    ∷ [] in
    let t2 : g2 ≡ taken_all n2 g = e2 ∙ ap (taken (codes "collection")) e1 in
    let t3 : g3 ≡ taken_all n3 g = e3 ∙ ap (taken (codes "id")) t2 in
    let t4 : g4 ≡ taken_all n4 g = e4 ∙ ap (taken (codes "q")) t3 in
    let t5 : g5 ≡ taken_all n5 g = e5 ∙ ap (taken (codes "fl")) t4 in
    let collection : param_at (codes "collection") g1 ≡ param_at (codes "collection") g =
    stays_all (codes "collection") n1 g g1 e1 refl in
    let id : param_at (codes "id") g2 ≡ param_at (codes "id") g =
    stays_all (codes "id") n2 g g2 t2 refl in
    let q : param_at (codes "q") g3 ≡ param_at (codes "q") g =
    stays_all (codes "q") n3 g g3 t3 refl in
    let fl : param_at (codes "fl") g4 ≡ param_at (codes "fl") g =
    stays_all (codes "fl") n4 g g4 t4 refl in
    let init : param_at (codes "initialCheckpoint") g5
    ≡ param_at (codes "initialCheckpoint") g =
    stays_all (codes "initialCheckpoint") n5 g g5 t5 refl in
    rw (collection, id, q, fl, init) refl

-- the second and the third of three parameters, each where those before it were taken
pub third_found : (first second third : ByteList) (g g1 g2 : List Given)
    → g1 ≡ taken first g → g2 ≡ taken second g1 → is_named second (first ∷ []) ≡ false
    → is_named third (first ∷ second ∷ []) ≡ false
    → (param_at second g1 ≡ param_at second g) × (param_at third g2 ≡ param_at third g)
third_found first second third g g1 g2 e1 e2 apart last = (
  stays_all second (first ∷ []) g g1 e1 apart,
  stays_all third (first ∷ second ∷ []) g g2 (e2 ∙ ap (taken second) e1) last,
)

-- a search is that of its parts
pub search_is : (collection : ByteList) (q : Query) (fl : List ByteList) (by : List SortTerm)
    (rows : Option ℕ) (keys : Option (List ByteList))
    → expr_tree (expr.Search collection q fl by rows keys) ≡ node (search (record {
      collection = collection;
      q = q.clauses;
      fl = fl;
      sort = by;
      rows = rows;
      partition_keys = keys;
    })) (inputs_of [])
search_is collection q fl by rows keys =
    ap expr_tree (sym (expr.rolls-Search collection q fl by rows keys))
    ∙ fold-roll-Expr ExprTree expr_step (Expr-F.Search collection q fl by rows keys)

-- and so is a topic
pub topic_is : (checkpoints collection id : ByteList) (q : Query) (text : ByteList)
    (fl : List ByteList) (init : Option ℕ)
    → expr_tree (expr.Topic checkpoints collection id q text fl init) ≡ node (topic (record {
      checkpoints = checkpoints;
      collection = collection;
      id = id;
      q = q.clauses;
      q_text = text;
      fl = fl;
      init = init;
    })) (inputs_of [])
topic_is checkpoints collection id q text fl init =
    ap expr_tree (sym (expr.rolls-Topic checkpoints collection id q text fl init))
    ∙ fold-roll-Expr ExprTree expr_step (Expr-F.Topic checkpoints collection id q text fl init)

-- the items of one more parameter
pub items_in-push : (given : List Given) (g : Given)
    → items_in (given ++ g ∷ []) ≡ items_in given ++ cons_option (item_in g.param) []
items_in-push given g = filter_map-append (λ g. item_in g.param) given (g ∷ [])

-- the metrics of one more parameter
pub metrics_in-push : (given : List Given) (g : Given)
    → metrics_in (given ++ g ∷ []) ≡ metrics_in given ++ cons_option (metric_in g) []
metrics_in-push given g = filter_map-append metric_in given (g ∷ [])

-- the metrics stay where a parameter of another name is taken
pub metrics_in-taken : (name : ByteList) (given : List Given)
    → bytes_eq name (codes "metric") ≡ false → metrics_in (taken name given) ≡ metrics_in given
metrics_in-taken name [] apart = refl
metrics_in-taken name (g ∷ given) apart =
    go (bytes_eq g.name name) refl (metrics_in-taken name given apart)
  where
    go : (b : Bool) → bytes_eq g.name name ≡ b
        → metrics_in (taken name given) ≡ metrics_in given
        → metrics_in (cond b (record g { param = Nothing } ∷ given) (g ∷ taken name given))
        ≡ metrics_in (g ∷ given)
    go true is stays = rw (other_name g.name name (codes "metric") apart is) refl
    go false is stays = ap (cons_option (metric_in g)) stays

-- what a loop over parameters needs
pub ruleset field_steps = (with_fields-push)

pub ruleset item_steps = (items_in-push)

pub ruleset metric_steps = (metrics_in-push)
