use Rattle.shard_versions.specs.declared.entry.Entry.{Entry}
use Rattle.once_core.specs.Law.{IsTrueKind, AreTrue}
use Rattle.once_core.specs.Worlds.{seen_by}
use Rattle.once_core.proofs.StepLemmas.{each-fails, each-goes, each-ends}
use Rattle.once_core.proofs.dispatch.are_true.Goals as goal

pub returns-then-not-is_true : goal.returns-then-not-is_true
unfolding AreTrue
returns-then-not-is_true c = λ cell.
    let s = c.args.seen.now in
    each-fails (λ (e : Entry). IsTrueKind s.names.now (seen_by s.actor s.world.now) cell e.kind) c.args.entries.now
    c.loop-entry.entry-index c.entry-item.result c.is_true.result c.loop-entry-test.true c.entry-item.is
    (c.is_true.ensures cell) c.if-not-is_true.true

pub loop-entry-preserved : goal.loop-entry-preserved
loop-entry-preserved c = λ cell.
    let s = c.args.seen.now in
    each-goes (λ (e : Entry). IsTrueKind s.names.now (seen_by s.actor s.world.now) cell e.kind) c.args.entries.now
    c.loop-entry.entry-index c.entry-item.result c.is_true.result c.loop-entry-test.true c.entry-item.is
    (c.is_true.ensures cell) c.if-not-is_true.false (c.loop-entry.invariant cell)

pub returns : goal.returns
unfolding AreTrue
returns c = λ cell.
    let s = c.args.seen.now in
    each-ends (λ (e : Entry). IsTrueKind s.names.now (seen_by s.actor s.world.now) cell e.kind) c.args.entries.now
    c.loop-entry.entry-index c.loop-entry-test.false (c.loop-entry.invariant cell)
