use Rattle.std.proofs.Common.{◌≡◌, take}
use Rattle.expr_types.specs.Joins.{right_names}
use Rattle.expr_check.proofs.joins.right_names.Given as goal

-- the names of the pairs so far
abbrev pub invariant-loop-pair : goal.invariant-loop-pair
invariant-loop-pair l = l.names ≡ right_names (take l.pair-index l.pair-items)
