use Rattle.std.proofs.Common.{take, ◌<◌}
use Rattle.std.specs.Option.{ForSome}
use Rattle.sort_spec.specs.Terms.{less}
use Rattle.order_kernels.specs.Slots.{held, IsForemost}
use Rattle.order_kernels.proofs.merge.least.Given as goal

-- the foremost of the inputs so far
abbrev pub invariant-loop-i : goal.invariant-loop-i
invariant-loop-i l = record {
  foremost : IsForemost (less l.on) (held (take l.i l.slots)) l.best;
  within : ForSome l.best (λ place. place < l.i);
}
