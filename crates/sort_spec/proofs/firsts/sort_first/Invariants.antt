use Rattle.std.proofs.Common.{◌≡◌, map, take}
use Rattle.sort_spec.specs.Sorting.{ins_sort}
use Rattle.sort_spec.specs.Terms.{less}
use Rattle.sort_spec.proofs.firsts.sort_first.Given as goal

-- what comes first of those held comes first of those so far
abbrev pub invariant-loop-item : goal.invariant-loop-item
invariant-loop-item g l =
    take l.most (ins_sort (less l.by) (map g.T.Lends.doc l.held.items))
    ≡ take l.most (ins_sort (less l.by) (map g.T.Lends.doc l.yielded))
