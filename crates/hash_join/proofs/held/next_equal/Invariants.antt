use Rattle.std.proofs.Common.{◌≡◌, filter, drop}
use Rattle.expr_types.specs.Joins.{matches}
use Rattle.hash_join.proofs.held.next_equal.Given as goal

-- none so far is an equal
abbrev pub invariant-loop-place : goal.invariant-loop-place
invariant-loop-place l =
    filter (matches l.on l.left) (drop l.from l.rights)
    ≡ filter (matches l.on l.left) (drop l.place l.rights)
