use Rattle.std.proofs.Common.{◌≡◌}
use Rattle.expr_plan.specs.Given.{metrics_in}
use Rattle.expr_plan.proofs.param.Params.into_metrics.Given as goal

-- those of the parameters so far
abbrev pub invariant-loop-given : goal.invariant-loop-given
invariant-loop-given l = l.metrics ≡ metrics_in l.yielded
