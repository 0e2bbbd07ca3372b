use Rattle.std.proofs.Common.{◌≡◌, drop}
use Rattle.expr_check.specs.Partitions.{same_names}
use Rattle.expr_check.proofs.partitions.same_names.Given as goal

-- the names so far are the same, so the others decide
abbrev pub invariant-loop-name : goal.invariant-loop-name
invariant-loop-name l =
    same_names l.names l.others ≡ same_names (drop l.name-index l.names) l.rest
