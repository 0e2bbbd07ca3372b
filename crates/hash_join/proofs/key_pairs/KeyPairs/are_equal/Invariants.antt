use Rattle.std.proofs.Common.{◌≡◌, drop}
use Rattle.expr_types.specs.Joins.{matches}
use Rattle.hash_join.proofs.key_pairs.KeyPairs.are_equal.Given as goal

-- the values of the pairs so far are equal, so the others decide
abbrev pub invariant-loop-pair : goal.invariant-loop-pair
invariant-loop-pair l =
    matches l.pair-items l.left l.right
    ≡ matches (drop l.pair-index l.pair-items) l.left l.right
