use Rattle.std.proofs.Common.{◌≡◌, drop, if◌then◌else◌}
use Rattle.expr_check.specs.Orders.{is_touched_once, is_untouched}
use Rattle.expr_check.proofs.orders.is_touched_once.Given as goal

-- the items to come decide: none of them where one touched the name, else just one
abbrev pub invariant-loop-item : goal.invariant-loop-item
invariant-loop-item l =
    is_touched_once l.name l.items
    ≡ (if l.touched then is_untouched l.name (drop l.item-index l.items)
    else is_touched_once l.name (drop l.item-index l.items))
