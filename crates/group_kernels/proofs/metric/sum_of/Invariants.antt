use Rattle.std.proofs.Common.{◌≡◌, take}
use Rattle.expr_types.specs.Groups.{wrapped_sum, numbers_of}
use Rattle.group_kernels.proofs.metric.sum_of.Given as goal

-- the sum of the numbers so far
abbrev pub invariant-loop-tuple : goal.invariant-loop-tuple
invariant-loop-tuple l = l.sum ≡ wrapped_sum (numbers_of l.field (take l.tuple-index l.run))
