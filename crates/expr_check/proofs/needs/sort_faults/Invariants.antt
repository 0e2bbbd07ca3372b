use Rattle.std.proofs.Common.{◌≡◌, drop}
use Rattle.expr_check.specs.Faults.{sort_fault, first_fault}
use Rattle.expr_check.proofs.needs.sort_faults.Given as goal

-- the inputs so far have no fault, so the others decide
abbrev pub invariant-loop-order : goal.invariant-loop-order
invariant-loop-order l =
    first_fault (sort_fault l.function l.on) l.orders
    ≡ first_fault (sort_fault l.function l.on) (drop l.order-index l.orders)
