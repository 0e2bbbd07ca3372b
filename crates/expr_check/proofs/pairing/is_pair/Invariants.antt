use Rattle.std.proofs.Common.{◌≡◌, drop}
use Rattle.expr_check.specs.Partitions.{is_pair}
use Rattle.expr_check.proofs.pairing.is_pair.Given as goal

-- no pair so far is the one, so the pairs to come decide
abbrev pub invariant-loop-pair : goal.invariant-loop-pair
invariant-loop-pair l = is_pair l.on l.left l.right ≡ is_pair (drop l.pair-index l.on) l.left l.right
