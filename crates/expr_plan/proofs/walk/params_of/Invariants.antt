use Rattle.std.proofs.Common.{◌≡◌, drop}
use Rattle.expr_reader.specs.Tree.{trees_of}
use Rattle.expr_plan.specs.Given.{nothing_given}
use Rattle.expr_plan.specs.Arguments.{walked, with_args}
use Rattle.expr_plan.proofs.walk.params_of.Given as goal

-- what is left to do of the arguments is what was to do at the start
abbrev pub invariant-loop-k : goal.invariant-loop-k
invariant-loop-k l =
    with_args l.function l.made (walked l.params) (trees_of (drop l.k l.args))
    ≡ with_args l.function l.made nothing_given (trees_of l.args)
