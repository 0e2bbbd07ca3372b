use Rattle.std.proofs.Common.{◌≡◌, drop}
use Rattle.std.specs.List.{list_all}
use Rattle.expr_check.specs.Partitions.{same_keys}
use Rattle.expr_check.proofs.partitions.all_same.Given as goal

-- the lists so far are the same, so those to come decide
abbrev pub invariant-loop-other : goal.invariant-loop-other
invariant-loop-other l =
    list_all (same_keys l.keys) l.others
    ≡ list_all (same_keys l.keys) (drop l.other-index l.others)
