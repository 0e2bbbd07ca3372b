use Rattle.std.proofs.Common.{◌≡◌, vec_len}
use Rattle.std.specs.List.{AllByRecursion}
use Rattle.order_kernels.specs.Slots.{IsFresh}
use Rattle.order_kernels.proofs.merge.fresh.Given as goal

-- the slots so far are fresh
abbrev pub invariant-loop-i : goal.invariant-loop-i
invariant-loop-i l = record {
  fresh : AllByRecursion IsFresh l.slots.items;
  len : vec_len l.slots ≡ l._i;
}
