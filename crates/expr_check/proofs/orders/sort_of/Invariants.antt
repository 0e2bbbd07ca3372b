use Rattle.std.proofs.Common.{◌≡◌, take}
use Rattle.expr_check.proofs.orders.sort_of.Given as goal

-- the terms so far
abbrev pub invariant-loop-term : goal.invariant-loop-term
invariant-loop-term l = l.sort ≡ take l.term-index l.terms
