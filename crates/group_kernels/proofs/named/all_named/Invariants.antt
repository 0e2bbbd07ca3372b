use Rattle.std.proofs.Common.{◌≡◌, map, take}
use Rattle.group_kernels.proofs.named.all_named.Given as goal

-- the metrics so far have their names
abbrev pub invariant-loop-metric : goal.invariant-loop-metric
invariant-loop-metric l = map (λ n. n.metric) l.all.items ≡ take l.metric-index l.metrics
