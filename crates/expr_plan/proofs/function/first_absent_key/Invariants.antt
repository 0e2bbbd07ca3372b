use Rattle.std.proofs.Common.{◌≡◌, drop, map}
use Rattle.expr_plan.specs.Given.{first_absent}
use Rattle.expr_plan.specs.TableViews.{key_shape}
use Rattle.expr_plan.proofs.function.first_absent_key.Given as goal

-- the first that isn't given is among those to come
abbrev pub invariant-loop-key : goal.invariant-loop-key
invariant-loop-key l =
    first_absent (map (λ k. k.0) (map key_shape l.keys)) l.params.items.items
    ≡ first_absent (map (λ k. k.0) (map key_shape (drop l.key-index l.keys))) l.params.items.items
