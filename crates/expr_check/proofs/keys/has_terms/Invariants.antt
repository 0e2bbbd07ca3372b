use Rattle.std.proofs.Common.{◌≡◌, drop}
use Rattle.std.specs.List.{list_all}
use Rattle.expr_check.specs.Partitions.{has_term}
use Rattle.expr_check.proofs.keys.has_terms.Given as goal

-- the sort has a term of each key so far, so the keys to come decide
abbrev pub invariant-loop-key : goal.invariant-loop-key
invariant-loop-key l =
    list_all (has_term l.by) l.keys ≡ list_all (has_term l.by) (drop l.key-index l.key-items)
