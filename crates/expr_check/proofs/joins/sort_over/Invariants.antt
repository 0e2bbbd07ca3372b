use Rattle.std.proofs.Common.{◌≡◌, ◌++◌, drop}
use Rattle.expr_types.specs.Orders.{sort_over}
use Rattle.expr_check.specs.Orders.{directions}
use Rattle.expr_check.proofs.joins.sort_over.Given as goal

-- the terms so far, and then those of the names to come
abbrev pub invariant-loop-name : goal.invariant-loop-name
invariant-loop-name l =
    sort_over l.names (directions l.terms)
    ≡ l.sort ++ sort_over (drop l.name-index l.name-items) (directions l.rest)
