use Rattle.std.proofs.Common.{◌≡◌, take}
use Rattle.expr_check.specs.Fields.{keys_of}
use Rattle.expr_check.proofs.fields.keys_of.Given as goal

-- the names of the fields so far
abbrev pub invariant-loop-k : goal.invariant-loop-k
invariant-loop-k l = l.list ≡ keys_of (take l.k l.tuple)
