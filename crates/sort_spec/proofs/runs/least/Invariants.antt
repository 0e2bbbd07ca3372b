use Rattle.std.proofs.Common.{◌<◌, map, take}
use Rattle.sort_spec.specs.Runs.{parts_in, IsForemost}
use Rattle.sort_spec.specs.Terms.{less}
use Rattle.sort_spec.proofs.runs.least.Given as goal

-- the foremost of the runs so far
abbrev pub invariant-loop-i : goal.invariant-loop-i
invariant-loop-i g l = record {
  foremost :
      IsForemost (less l.terms) l.best
      (map (parts_in g.T.Lends.doc (g.S.Ascends.to_come l.terms)) (take l.i l.runs));
  within : l.best < l.i;
}
