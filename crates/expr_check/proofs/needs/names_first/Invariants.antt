use Rattle.std.proofs.Common.{◌≡◌, drop}
use Rattle.expr_check.specs.Needs.{names_first}
use Rattle.expr_check.proofs.needs.names_first.Given as goal

-- the names so far are there, so the others decide
abbrev pub invariant-loop-name : goal.invariant-loop-name
invariant-loop-name l =
    names_first l.names l.terms ≡ names_first (drop l.name-index l.names) l.rest
