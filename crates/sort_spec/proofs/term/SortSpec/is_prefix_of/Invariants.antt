use Rattle.std.proofs.Common.{◌≡◌, take}
use Rattle.sort_spec.proofs.term.SortSpec.is_prefix_of.Given as goal

-- the terms so far are those of the other
abbrev pub invariant-loop-k : goal.invariant-loop-k
invariant-loop-k l = take l.k l.terms ≡ take l.k l.others
