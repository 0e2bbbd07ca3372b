use Rattle.std.proofs.Common.{◌≡◌, drop, map}
use Rattle.expr_plan.specs.Given.{first_absent}
use Rattle.expr_plan.proofs.function.first_absent.Given as goal

-- the first that isn't given is among those to come
abbrev pub invariant-loop-name : goal.invariant-loop-name
invariant-loop-name l =
    first_absent (map (λ name. name.now) l.names) l.params.items.items
    ≡ first_absent (map (λ name. name.now) (drop l.name-index l.names)) l.params.items.items
