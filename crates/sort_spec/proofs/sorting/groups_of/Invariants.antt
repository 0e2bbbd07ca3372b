use Rattle.std.proofs.Common.{◌≡◌, ◌++◌, length, map}
use Rattle.sort_spec.specs.Runs.{docs_in, merged_of, AreRuns}
use Rattle.sort_spec.specs.Sorting.{ins_sort}
use Rattle.sort_spec.specs.Terms.{less}
use Rattle.sort_spec.proofs.sorting.groups_of.Given as goal

-- what isn't in a group yet, and then the groups, sort as all do
abbrev pub invariant-cuts : goal.invariant-cuts
invariant-cuts g l = record {
  docs :
      ins_sort (less l.terms)
      (map g.T.Lends.doc l.items.items
      ++ docs_in g.T.Lends.doc
      (λ runs. merged_of g.T.Lends.doc (λ others. map g.T.Lends.doc others.items) l.terms runs.items)
      l.groups.items)
      ≡ ins_sort (less l.terms) (map g.T.Lends.doc l.fn.items.items);
  groups :
      AreRuns g.T.Lends.doc
      (λ runs. merged_of g.T.Lends.doc (λ others. map g.T.Lends.doc others.items) l.terms runs.items)
      (λ runs. AreRuns g.T.Lends.doc (λ others. map g.T.Lends.doc others.items) (λ others. Unit {0})
      l.terms runs.items)
      l.terms l.groups.items;
}

-- what isn't in a group yet
abbrev pub decreases-cuts : goal.decreases-cuts
decreases-cuts g l = length l.items.items
