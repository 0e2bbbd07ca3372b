use Rattle.std.proofs.Common.{◌≡◌, drop}
use Rattle.expr_check.specs.Orders.{directions_of}
use Rattle.expr_check.proofs.joins.first_terms.Given as goal

-- the orders so far are any, so the others decide
abbrev pub invariant-loop-order : goal.invariant-loop-order
invariant-loop-order l = directions_of l.orders ≡ directions_of (drop l.order-index l.orders)
