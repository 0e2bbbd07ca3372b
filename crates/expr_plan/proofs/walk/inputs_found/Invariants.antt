use Rattle.std.proofs.Common.{◌≡◌, ◌+◌, ◌≤◌, drop}
use Rattle.expr_reader.specs.Tree.{trees_of}
use Rattle.expr_plan.specs.Walk.{inputs_found}
use Rattle.expr_plan.proofs.walk.inputs_found.Given as goal

-- what was counted, and what is to come, are all inputs
abbrev pub invariant-loop-k : goal.invariant-loop-k
invariant-loop-k l =
    (l.found ≤ l.k)
    × (l.found + inputs_found l.place l.function (trees_of (drop l.k l.args))
    ≡ inputs_found l.place l.function (trees_of l.args))
