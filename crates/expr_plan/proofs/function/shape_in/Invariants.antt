use Rattle.std.proofs.Common.{◌≡◌, drop, map}
use Rattle.expr_plan.specs.Functions.{shape_in}
use Rattle.expr_plan.specs.TableViews.{key_shape}
use Rattle.expr_plan.proofs.function.shape_in.Given as goal

-- the shape is that under the first of the keys to come that is the key
abbrev pub invariant-loop-k : goal.invariant-loop-k
invariant-loop-k l =
    shape_in l.key (map key_shape l.keys)
    ≡ shape_in l.key (map key_shape (drop l.k-index l.keys))
