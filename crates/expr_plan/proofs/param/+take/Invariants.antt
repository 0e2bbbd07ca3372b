use Rattle.std.proofs.Common.{length}
use Rattle.expr_plan.proofs.param.+take.Given as goal

-- what is left of the list
abbrev pub decreases-take : goal.decreases-take
decreases-take l = length l.items.now
