use Rattle.std.proofs.Common.{◌≡◌, drop}
use Rattle.expr_plan.specs.Given.{is_given}
use Rattle.expr_plan.proofs.param.Params.has.Given as goal

-- the name is given where it is among the parameters to come
abbrev pub invariant-loop-given : goal.invariant-loop-given
invariant-loop-given l =
    is_given l.name l.given-items ≡ is_given l.name (drop l.given-index l.given-items)
