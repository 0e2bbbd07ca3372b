use Rattle.std.proofs.Common.{◌≡◌, map, Ok}
use Rattle.parallel_parts.proofs.work.all_given.Given as goal

-- the lists so far are what was given so far
abbrev pub invariant-loop-tuples : goal.invariant-loop-tuples
invariant-loop-tuples l = map Ok l.lists.items ≡ l.yielded
