use Rattle.std.proofs.Common.{◌≡◌, take}
use Rattle.expr_types.specs.Groups.{foremost, numbers_of}
use Rattle.group_kernels.specs.Numbers.{of_two}
use Rattle.group_kernels.proofs.metric.foremost.Given as goal

-- the foremost of the numbers so far
abbrev pub invariant-loop-tuple : goal.invariant-loop-tuple
invariant-loop-tuple l =
    l.best ≡ foremost (of_two l.greatest) (numbers_of l.field (take l.tuple-index l.run))
