use Rattle.std.proofs.Common.{◌≡◌, ◌++◌, map}
use Rattle.expr_check.specs.Views.{part_tree}
use Rattle.expr_check.proofs.holding.with_parts.Given as goal

-- the parts so far stand at the end
abbrev pub invariant-loop-part : goal.invariant-loop-part
invariant-loop-part l =
    map part_tree l.all.items ≡ map part_tree l.fn.all.items ++ map part_tree l.yielded
