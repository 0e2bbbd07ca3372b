use Rattle.std.proofs.Common.{rules, ◌∙◌, ap, sym, map, Bool}
use Rattle.std.specs.Cmp.{IsStrictWeakOrder}
use Rattle.std.proofs.lemmas.Fn.{always_returns_same}
use Rattle.std.proofs.lemmas.List.MinMax.{ranks_by}
use Rattle.sort_spec.specs.Sorting.{ins_sort}
use Rattle.sort_spec.proofs.KeyedLemmas.{ins_sort-map}
use Rattle.sort_spec.proofs.StableLemmas.{stable_sort}
use Rattle.source_streams.specs.Batches.{batch_over, cut_item, is_before, items_of}
use Rattle.source_streams.specs.Founds.{item_found}
use Rattle.source_streams.specs.declared.batch.Found.{Found}
use Rattle.source_streams.proofs.BatchLemmas.{batch_over-parts, item_cmp_total}
use Rattle.source_streams.proofs.batch.topic_batch.Goals as goal

pub returns : goal.returns
returns c =
    let t = c.in-Topic in
    let cut = c.args.cut.now in
    let above = c.args.above.now in
    let rows = c.in_ok-found.found.items in
    let lt : Found → Found → Bool = λ a b. is_before (item_found a) (item_found b) in
    let weak : IsStrictWeakOrder lt = ranks_by item_cmp_total item_found in
    let names = c.in_ok-names.names in
    c.in_ok-batch.ensures
    ∙ ap (λ s. map (cut_item names) (map item_found s))
    (c.as_slice-2.ensures.value
    ∙ stable_sort lt weak rows c.sort_by.new.self.items
    (c.in_ok-sort_by.ensures.sorted lt weak (always_returns_same _ _ _ (λ a r q k. search rules)))
    (c.in_ok-sort_by.ensures.stable lt weak (always_returns_same _ _ _ (λ a r q k. search rules))))
    ∙ ap (map (cut_item names)) (ins_sort-map is_before item_found rows)
    ∙ ap (λ made. map (cut_item names) (ins_sort is_before made)) c.in_ok-found.ensures
    ∙ ap (λ parts. map (cut_item names)
    (ins_sort is_before (items_of t.q.clauses t.collection above parts))) c.as_slice.ensures
    ∙ ap (λ n. map (cut_item n)
    (ins_sort is_before (items_of t.q.clauses t.collection above cut))) c.in_ok-names.ensures
    ∙ sym (ap (λ e. batch_over e cut above) t.is
    ∙ batch_over-parts t.checkpoints t.collection t.id t.q t.q_text t.fl t.init cut above)
