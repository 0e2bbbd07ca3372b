use Rattle.std.proofs.Common.{◌≡◌, drop}
use Rattle.expr_check.specs.Faults.{field_outside}
use Rattle.expr_check.proofs.needs.field_outside.Given as goal

-- the first field outside is the first among the terms to come
abbrev pub invariant-loop-term : goal.invariant-loop-term
invariant-loop-term l =
    field_outside l.term-items l.fl ≡ field_outside (drop l.term-index l.term-items) l.fl
