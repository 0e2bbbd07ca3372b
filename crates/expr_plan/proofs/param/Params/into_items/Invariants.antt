use Rattle.std.proofs.Common.{◌≡◌}
use Rattle.expr_plan.specs.Given.{items_in}
use Rattle.expr_plan.proofs.param.Params.into_items.Given as goal

-- those of the parameters so far
abbrev pub invariant-loop-given : goal.invariant-loop-given
invariant-loop-given l = l.items ≡ items_in l.yielded
