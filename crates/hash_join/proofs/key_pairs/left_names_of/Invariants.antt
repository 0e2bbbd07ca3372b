use Rattle.std.proofs.Common.{◌≡◌, map, take}
use Rattle.hash_join.proofs.key_pairs.left_names_of.Given as goal

-- the names of the pairs so far
abbrev pub invariant-loop-pair : goal.invariant-loop-pair
invariant-loop-pair l = l.names ≡ map (λ pair. pair.left) (take l.pair-index l.on)
