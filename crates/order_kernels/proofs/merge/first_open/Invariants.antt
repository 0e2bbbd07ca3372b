use Rattle.std.proofs.Common.{take}
use Rattle.order_kernels.specs.Slots.{held, flags, AreKnown}
use Rattle.order_kernels.proofs.merge.first_open.Given as goal

-- the inputs so far are known
abbrev pub invariant-loop-i : goal.invariant-loop-i
invariant-loop-i l = AreKnown (held (take l.i l.slots)) (flags (take l.i l.slots))
