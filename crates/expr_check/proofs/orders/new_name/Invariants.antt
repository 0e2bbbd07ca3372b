use Rattle.std.proofs.Common.{◌≡◌, drop}
use Rattle.expr_check.specs.Orders.{new_name}
use Rattle.expr_check.proofs.orders.new_name.Given as goal

-- no item so far chooses the field, so the others decide
abbrev pub invariant-loop-item : goal.invariant-loop-item
invariant-loop-item l = new_name l.field l.items ≡ new_name l.field (drop l.item-index l.items)
