use Rattle.std.proofs.Common.{◌≡◌, drop}
use Rattle.expr_check.specs.Partitions.{has_term}
use Rattle.expr_check.proofs.keys.has_term.Given as goal

-- no term so far has the field, so the terms to come decide
abbrev pub invariant-loop-term : goal.invariant-loop-term
invariant-loop-term l = has_term l.by l.field ≡ has_term (drop l.term-index l.term-items) l.field
