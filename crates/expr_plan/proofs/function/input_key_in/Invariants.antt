use Rattle.std.proofs.Common.{◌≡◌, map, drop}
use Rattle.expr_plan.specs.Functions.{input_key_in}
use Rattle.expr_plan.specs.TableViews.{key_shape}
use Rattle.expr_plan.proofs.function.input_key_in.Given as goal

-- no key so far is one for an input, so the others decide
abbrev pub invariant-loop-k : goal.invariant-loop-k
invariant-loop-k l =
    input_key_in (map key_shape l.keys) ≡ input_key_in (map key_shape (drop l.k-index l.keys))
