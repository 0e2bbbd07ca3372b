use Rattle.std.proofs.Common.{◌≡◌, ◌++◌, length, map}
use Rattle.sort_spec.specs.Runs.{docs_in, AreRuns}
use Rattle.sort_spec.specs.Sorting.{ins_sort}
use Rattle.sort_spec.specs.Terms.{less}
use Rattle.sort_spec.proofs.sorting.runs_of.Given as goal

-- what isn't in a run yet, and then the runs, sort as all do
abbrev pub invariant-loop-items : goal.invariant-loop-items
invariant-loop-items g l = record {
  docs :
      ins_sort (less l.terms)
      (map g.T.Lends.doc l.items.items
      ++ docs_in g.T.Lends.doc (λ others. map g.T.Lends.doc others.items) l.runs.items)
      ≡ ins_sort (less l.terms) (map g.T.Lends.doc l.fn.items.items);
  runs :
      AreRuns g.T.Lends.doc (λ others. map g.T.Lends.doc others.items) (λ others. Unit {0}) l.terms
      l.runs.items;
}

-- what isn't in a run yet
abbrev pub decreases-loop-items : goal.decreases-loop-items
decreases-loop-items g l = length l.items.items
