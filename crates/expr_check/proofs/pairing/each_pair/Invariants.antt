use Rattle.std.proofs.Common.{◌≡◌, drop}
use Rattle.expr_check.specs.Partitions.{each_pair, is_kept_pair}
use Rattle.expr_check.proofs.pairing.each_pair.Given as goal

-- the names so far are pairs, so the others decide
abbrev pub invariant-loop-left : goal.invariant-loop-left
invariant-loop-left l =
    each_pair (is_kept_pair l.on l.fields) l.lefts l.rights
    ≡ each_pair (is_kept_pair l.on l.fields) (drop l.left-index l.lefts) l.rest
