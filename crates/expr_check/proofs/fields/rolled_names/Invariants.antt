use Rattle.std.proofs.Common.{◌≡◌, ◌++◌, take, map}
use Rattle.expr_types.specs.Groups.{metric_name}
use Rattle.expr_check.proofs.fields.rolled_names.Given as goal

-- the names of the key, and of the metrics so far
abbrev pub invariant-loop-metric : goal.invariant-loop-metric
invariant-loop-metric l =
    l.list ≡ l.over ++ map metric_name (take l.metric-index l.metric-items)
