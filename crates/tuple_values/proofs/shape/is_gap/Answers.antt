use Rattle.std.proofs.Common.{arith}
use Rattle.tuple_values.proofs.ShapeLemmas.{gap_beside}
use Rattle.tuple_values.proofs.shape.is_gap.Goals as goal

pub returns-then-is_above-clause-gap : goal.returns-then-is_above-clause-gap
returns-then-is_above-clause-gap c = λ below.
    gap_beside _ _ _ c.requires (omega arith)
    (c.is_above.ensures c.if-is_above.true) (c.is_below.ensures below)
