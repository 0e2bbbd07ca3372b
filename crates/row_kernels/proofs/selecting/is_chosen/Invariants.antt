use Rattle.std.proofs.Common.{◌≡◌, drop}
use Rattle.row_kernels.specs.Choosing.{is_chosen}
use Rattle.row_kernels.proofs.selecting.is_chosen.Given as goal

-- the items that are left decide
abbrev pub invariant-loop-item : goal.invariant-loop-item
invariant-loop-item l =
    is_chosen l.name l.items ≡ is_chosen l.name (drop l.item-index l.items)
