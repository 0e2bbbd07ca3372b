use Rattle.std.proofs.Common.{◌≡◌, map}
use Rattle.sort_spec.specs.Rows.{row_in}
use Rattle.sort_spec.proofs.rows.take_items.Given as goal

-- the items of the rows so far
abbrev pub invariant-loop-row : goal.invariant-loop-row
invariant-loop-row g l =
    map g.T.Lends.doc l.items.items
    ≡ map (λ row. row.1) (map (row_in g.T.Lends.doc) l.yielded)
