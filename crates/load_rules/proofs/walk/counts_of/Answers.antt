use Rattle.std.proofs.Common.{arith, drop}
use Rattle.std.proofs.lemmas.List.{length-drop}
use Rattle.load_rules.proofs.WalkLemmas.{writes-below}
use Rattle.load_rules.proofs.walk.counts_of.Goals as goal

pub returns-clause-low : goal.returns-clause-low
returns-clause-low c = record {
  documents = omega arith;
  writes = omega (
    arith,
    writes-below c.loop-at.walk (drop c.loop-at.at c.args.history.now) c.loop-at.invariant.walked,
    length-drop c.loop-at.at c.args.history.now,
  );
  amounts = omega arith;
  revisions = omega arith;
}
