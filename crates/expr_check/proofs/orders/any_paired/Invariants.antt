use Rattle.std.proofs.Common.{◌≡◌, drop}
use Rattle.std.specs.List.{list_any}
use Rattle.expr_check.specs.Orders.{is_paired}
use Rattle.expr_check.proofs.orders.any_paired.Given as goal

-- no pair so far asks it, so the others decide
abbrev pub invariant-loop-pair : goal.invariant-loop-pair
invariant-loop-pair l =
    list_any (is_paired l.field) l.on ≡ list_any (is_paired l.field) (drop l.pair-index l.on)
