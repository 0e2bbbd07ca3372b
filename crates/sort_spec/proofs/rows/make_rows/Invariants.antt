use Rattle.std.proofs.Common.{◌≡◌, map}
use Rattle.sort_spec.specs.Rows.{row_in, row_for}
use Rattle.sort_spec.proofs.rows.make_rows.Given as goal

-- the rows of the items so far
abbrev pub invariant-loop-item : goal.invariant-loop-item
invariant-loop-item g l =
    map (row_in g.T.Lends.doc) l.rows.items ≡ map (row_for l.terms) (map g.T.Lends.doc l.yielded)
