use Rattle.std.proofs.Common.{◌≡◌, drop}
use Rattle.merge_join.specs.Keys.{order_of}
use Rattle.merge_join.proofs.term.compare_by.Given as goal

-- the terms so far tell no difference
abbrev pub invariant-loop-term : goal.invariant-loop-term
invariant-loop-term l =
    order_of l.term-items l.left l.right
    ≡ order_of (drop l.term-index l.term-items) l.left l.right
