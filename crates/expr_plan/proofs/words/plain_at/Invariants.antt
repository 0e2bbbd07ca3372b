use Rattle.std.proofs.Common.{◌≡◌, drop, slice_get}
use Rattle.std.specs.List.{filter_map}
use Rattle.expr_plan.specs.Words.{plain_of, plain_at}
use Rattle.expr_plan.proofs.words.plain_at.Given as goal

-- as many plain words are to be passed by as are left
abbrev pub invariant-loop-k : goal.invariant-loop-k
invariant-loop-k l =
    plain_at l.place l.args ≡ slice_get (filter_map plain_of (drop l.k l.args)) l.left
