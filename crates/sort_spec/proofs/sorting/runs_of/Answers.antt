use Rattle.std.proofs.Common.{◌≡◌, [], ◌++◌, map, take, drop, ap, ◌∙◌}
use Rattle.sort_spec.specs.Runs.{docs_in}
use Rattle.sort_spec.specs.Sorting.{ins_sort}
use Rattle.sort_spec.specs.Terms.{less}
use Rattle.sort_spec.proofs.RunLemmas.{end_sorted}
use Rattle.sort_spec.proofs.StableLemmas.{ins_ascends}
use Rattle.sort_spec.proofs.TermLemmas.{less_is_weak}
use Rattle.sort_spec.proofs.sorting.runs_of.Goals as goal

pub add_first-requires-clause-ascending : goal.add_first-requires-clause-ascending
add_first-requires-clause-ascending g c =
    let terms = c.args.terms.now in
    rw (c.from.ensures.0, c.in_ok-sorted.ensures)
    (ins_ascends (less terms) (less_is_weak terms) [] (map g.T.Lends.doc c.in_ok-cut.cut.items) tt)

pub loop-items-preserved : goal.loop-items-preserved
loop-items-preserved g c =
    let terms = c.args.terms.now in
    let doc = g.T.Lends.doc in
    let items = c.loop-items.items.items in
    let at = c.saturating_sub-at.result in
    let runs = docs_in doc (λ others. map doc others.items) c.loop-items.runs.items in
    let lt = less terms in
    let kept : map doc c.shrink_to_fit.new.self.items ≡ map doc (take at items) =
    ap (map doc) (c.shrink_to_fit.ensures.items ∙ c.in_ok-cut.ensures.items) in
    let sorted : map doc c.from.result.items ≡ ins_sort lt (map doc (drop at items)) =
    ap (map doc) c.from.ensures.0 ∙ c.in_ok-sorted.ensures ∙ ap (λ w. ins_sort lt (map doc w)) c.in_ok-cut.ensures.tail in
    let docs : docs_in doc (λ others. map doc others.items) c.add_first.new.runs.items
    ≡ ins_sort lt (map doc (drop at items)) ++ runs =
    c.in_ok-add_first.ensures.docs ∙ ap (λ run. run ++ runs) sorted in
    record {
      docs =
          (λ j. ins_sort lt (kept j ++ docs j))
          ∙ end_sorted lt (less_is_weak terms) doc at items runs
          ∙ c.loop-items.invariant.docs;
      runs = c.in_ok-add_first.ensures.runs;
    }
