use Rattle.std.proofs.Common.{◌≡◌, drop}
use Rattle.expr_check.specs.Faults.{names_fault, first_fault}
use Rattle.expr_check.proofs.needs.names_faults.Given as goal

-- the inputs so far have no fault, so the others decide
abbrev pub invariant-loop-order : goal.invariant-loop-order
invariant-loop-order l =
    first_fault (names_fault l.function l.names) l.orders
    ≡ first_fault (names_fault l.function l.names) (drop l.order-index l.orders)
