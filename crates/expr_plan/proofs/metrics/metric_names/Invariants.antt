use Rattle.std.proofs.Common.{◌≡◌, ◌++◌, drop}
use Rattle.expr_plan.specs.Items.{metric_names}
use Rattle.expr_plan.proofs.metrics.metric_names.Given as goal

-- the names so far and those to come are all
abbrev pub invariant-loop-k : goal.invariant-loop-k
invariant-loop-k l = l.names ++ metric_names (drop l.k l.args) ≡ metric_names l.args
