use Rattle.std.proofs.Common.{◌≡◌, ◌++◌, length, map}
use Rattle.sort_spec.proofs.runs.merge.Given as goal

-- what was taken, and then what is to come, is all
abbrev pub invariant-loop-row : goal.invariant-loop-row
invariant-loop-row g l = record {
  all :
      map g.T.Lends.doc l.merged.items ++ g.S.Ascends.to_come l.terms l.rows
      ≡ g.S.Ascends.to_come l.terms l.initial.rows;
  sound : g.S.Ascends.sound l.terms l.rows;
}

-- one fewer is to come
abbrev pub decreases-loop-row : goal.decreases-loop-row
decreases-loop-row g l = length (g.S.Ascends.to_come l.terms l.rows)
