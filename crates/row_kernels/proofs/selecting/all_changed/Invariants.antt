use Rattle.std.proofs.Common.{◌≡◌, drop, fold}
use Rattle.expr_types.specs.Rows.{changed}
use Rattle.row_kernels.proofs.selecting.all_changed.Given as goal

-- the changes that are still to come change what there is
abbrev pub invariant-loop-item : goal.invariant-loop-item
invariant-loop-item l =
    fold changed l.fn.tuple l.items ≡ fold changed l.after (drop l.item-index l.items)
