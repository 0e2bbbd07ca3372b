use Rattle.std.proofs.Common.{◌≡◌, drop, fold, map}
use Rattle.expr_types.specs.Groups.{rolled, metric_name, metric_of, with_number}
use Rattle.group_kernels.proofs.rolled.rolled.Given as goal

-- the metrics that are still to come are put into the row
abbrev pub invariant-loop-metric : goal.invariant-loop-metric
invariant-loop-metric l =
    rolled l.names (map (λ n. n.metric) l.metrics) l.run
    ≡ fold (λ doc metric. with_number (metric_name metric) (metric_of metric l.run) doc)
    l.row (map (λ n. n.metric) (drop l.metric-index l.metrics))
