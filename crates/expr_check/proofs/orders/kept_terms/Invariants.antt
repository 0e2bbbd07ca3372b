use Rattle.std.proofs.Common.{◌≡◌, ◌++◌, drop}
use Rattle.expr_check.specs.Orders.{kept_terms}
use Rattle.expr_check.proofs.orders.kept_terms.Given as goal

-- what is kept so far, and then what is kept of the terms to come
abbrev pub invariant-loop-term : goal.invariant-loop-term
invariant-loop-term l =
    kept_terms l.items l.sort ≡ l.kept ++ kept_terms l.items (drop l.term-index l.term-items)
