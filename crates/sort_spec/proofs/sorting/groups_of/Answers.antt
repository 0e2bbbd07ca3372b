use Rattle.std.proofs.Common.{◌≡◌, [], ◌++◌, map, take, drop, ap, ◌∙◌}
use Rattle.sort_spec.specs.Runs.{docs_in, merged_of}
use Rattle.sort_spec.specs.Sorting.{ins_sort}
use Rattle.sort_spec.specs.Terms.{less}
use Rattle.sort_spec.proofs.RunLemmas.{end_sorted}
use Rattle.sort_spec.proofs.StableLemmas.{ins_ascends}
use Rattle.sort_spec.proofs.TermLemmas.{less_is_weak}
use Rattle.sort_spec.proofs.sorting.groups_of.Goals as goal

pub add_first-requires-clause-ascending : goal.add_first-requires-clause-ascending
add_first-requires-clause-ascending g c =
    let terms = c.args.terms.now in
    let doc = g.T.Lends.doc in
    ins_ascends (less terms) (less_is_weak terms) []
    (docs_in doc (λ others. map doc others.items) c.in_ok-runs.runs.items) tt

pub cuts-preserved : goal.cuts-preserved
cuts-preserved g c =
    let terms = c.args.terms.now in
    let doc = g.T.Lends.doc in
    let items = c.cuts.items.items in
    let at = c.saturating_sub-at.result in
    let lt = less terms in
    let groups =
    docs_in doc (λ runs. merged_of doc (λ others. map doc others.items) terms runs.items)
    c.cuts.groups.items in
    let kept : map doc c.shrink_to_fit.new.self.items ≡ map doc (take at items) =
    ap (map doc) (c.shrink_to_fit.ensures.items ∙ c.in_ok-cut.ensures.items) in
    let sorted : merged_of doc (λ others. map doc others.items) terms c.in_ok-runs.runs.items
    ≡ ins_sort lt (map doc (drop at items)) =
    c.in_ok-runs.ensures.docs ∙ ap (λ w. ins_sort lt (map doc w)) c.in_ok-cut.ensures.tail in
    let docs : docs_in doc (λ runs. merged_of doc (λ others. map doc others.items) terms runs.items)
    c.add_first.new.runs.items
    ≡ ins_sort lt (map doc (drop at items)) ++ groups =
    c.in_ok-add_first.ensures.docs ∙ ap (λ run. run ++ groups) sorted in
    record {
      docs =
          (λ j. ins_sort lt (kept j ++ docs j))
          ∙ end_sorted lt (less_is_weak terms) doc at items groups
          ∙ c.cuts.invariant.docs;
      groups = c.in_ok-add_first.ensures.runs;
    }
