use Rattle.std.proofs.Common.{◌≡◌, map}
use Rattle.std.specs.Prelude.{flat_map}
use Rattle.expr_check.specs.Held.{held_parts}
use Rattle.expr_check.specs.Views.{part_tree}
use Rattle.expr_check.proofs.holding.all_parts.Given as goal

-- the parts of the inputs so far
abbrev pub invariant-loop-within : goal.invariant-loop-within
invariant-loop-within l = map part_tree l.all.items ≡ flat_map held_parts l.yielded
