use Rattle.std.proofs.Common.{◌≡◌, take}
use Rattle.topic_book.proofs.alike.same_names.Given as goal

-- the names agree so far
abbrev pub invariant-loop-i : goal.invariant-loop-i
invariant-loop-i l = take l.i l.left ≡ take l.i l.right
