use Rattle.std.proofs.Common.{◌≡◌, drop}
use Rattle.expr_check.specs.Partitions.{are_among}
use Rattle.expr_check.proofs.partitions.are_among.Given as goal

-- the names so far are among the others, so those to come decide
abbrev pub invariant-loop-name : goal.invariant-loop-name
invariant-loop-name l =
    are_among l.others l.names ≡ are_among l.others (drop l.name-index l.name-items)
