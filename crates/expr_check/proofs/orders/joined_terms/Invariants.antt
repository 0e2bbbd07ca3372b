use Rattle.std.proofs.Common.{◌≡◌, ◌++◌, drop}
use Rattle.expr_check.specs.Orders.{joined_terms}
use Rattle.expr_check.proofs.orders.joined_terms.Given as goal

-- the terms so far, and then what is kept of those to come
abbrev pub invariant-loop-term : goal.invariant-loop-term
invariant-loop-term l =
    joined_terms l.on l.right l.sort
    ≡ l.kept ++ joined_terms l.on l.right (drop l.term-index l.term-items)
