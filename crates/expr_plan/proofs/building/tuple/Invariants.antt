use Rattle.std.proofs.Common.{◌≡◌, []}
use Rattle.expr_plan.specs.Operators.{with_fields}
use Rattle.expr_plan.proofs.building.tuple.Given as goal

-- the fields are those of the parameters so far
abbrev pub invariant-loop-given : goal.invariant-loop-given
invariant-loop-given l = l.fields ≡ with_fields [] l.yielded
