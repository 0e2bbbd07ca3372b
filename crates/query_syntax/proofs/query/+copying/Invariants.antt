use Rattle.std.proofs.Common.{◌≡◌, take}
use Rattle.query_syntax.proofs.query.+copying.Given as goal

-- the clauses so far are copied
abbrev pub invariant-Clauses::copy-loop-clause : goal.invariant-Clauses::copy-loop-clause
invariant-Clauses::copy-loop-clause l = l.items.items ≡ take l.clause-index l.clause-items
