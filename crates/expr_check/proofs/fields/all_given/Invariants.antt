use Rattle.std.proofs.Common.{◌≡◌, take, map}
use Rattle.expr_check.specs.Fields.{given_name}
use Rattle.expr_check.proofs.fields.all_given.Given as goal

-- the names of the items so far
abbrev pub invariant-loop-item : goal.invariant-loop-item
invariant-loop-item l = l.list ≡ map given_name (take l.item-index l.item-items)
