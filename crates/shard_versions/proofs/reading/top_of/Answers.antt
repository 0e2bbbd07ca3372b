use Rattle.std.proofs.Common.{arith, ◌∙◌}
use Rattle.shard_versions.proofs.SnapshotLemmas.{version_after-next}
use Rattle.shard_versions.proofs.ReadingLemmas.{top-begins, top-ends, last-goes}
use Rattle.shard_versions.proofs.reading.top_of.Goals as goal

pub loop-entry-init : goal.loop-entry-init
loop-entry-init c = record {
  reached = top-begins c.args.history.now c.settled-entries.result.now c.settled-entries.ensures;
  few = omega arith;
}

pub loop-entry-preserved : goal.loop-entry-preserved
loop-entry-preserved c = record {
  reached = rw c.version_after-version.ensures
      (last-goes c.settled-entries.result.now c.loop-entry.entry-index c.entry-item.result c.loop-entry-test.true
      c.entry-item.is c.loop-entry.version ∙ c.loop-entry.invariant.reached);
  few = omega (arith, version_after-next c.loop-entry.version c.entry-item.result.kind);
}

pub returns : goal.returns
returns c =
    top-ends c.args.history.now c.settled-entries.result.now c.loop-entry.entry-index c.loop-entry.version
    c.loop-entry-test.false c.loop-entry.invariant.reached
