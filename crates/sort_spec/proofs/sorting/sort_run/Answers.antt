use Rattle.std.proofs.Common.{rules, ◌∙◌, ap, map, Bool}
use Rattle.std.specs.Cmp.{IsStrictWeakOrder}
use Rattle.std.proofs.lemmas.Fn.{always_returns_same}
use Rattle.std.proofs.lemmas.List.MinMax.{ranks_by}
use Rattle.tuple_values.specs.Document.{Doc}
use Rattle.sort_spec.specs.Fronts.{Row}
use Rattle.sort_spec.specs.Rows.{row_in}
use Rattle.sort_spec.specs.Sorting.{ins_sort}
use Rattle.sort_spec.specs.declared.rows.Fronted.{Fronted}
use Rattle.sort_spec.proofs.KeyedLemmas.{row_cmp_total, row_less, ins_sort-map, sorted_rows}
use Rattle.sort_spec.proofs.StableLemmas.{stable_sort}
use Rattle.sort_spec.proofs.sorting.sort_run.Goals as goal

pub returns : goal.returns
returns g c =
    let terms = c.args.terms.now in
    let rows = c.in_ok-rows.rows.items in
    let doc = g.T.Lends.doc in
    let row : Fronted _ → Row = row_in doc in
    let document : Row → Doc = λ row. row.1 in
    let lt : Fronted _ → Fronted _ → Bool = λ a b. row_less terms (row a) (row b) in
    let weak : IsStrictWeakOrder lt = ranks_by (row_cmp_total terms) row in
    c.in_ok-sorted.ensures
    ∙ ap (λ s. map document (map row s))
    (stable_sort lt weak rows c.sort_by.new.self.items
    (c.in_ok-sort_by.ensures.sorted lt weak (always_returns_same _ _ _ (λ a r q k. search rules)))
    (c.in_ok-sort_by.ensures.stable lt weak (always_returns_same _ _ _ (λ a r q k. search rules))))
    ∙ ap (map document) (ins_sort-map (row_less terms) row rows)
    ∙ ap (λ made. map document (ins_sort (row_less terms) made)) c.in_ok-rows.ensures
    ∙ sorted_rows terms (map doc c.args.items.items)
