use Rattle.std.proofs.Common.{List}
use Rattle.once_core.specs.declared.event.Event.{Event}
use Rattle.once_core.proofs.RunLemmas.{run-law, run-goes}
use Rattle.once_core.proofs.replay.replay_events.Goals as goal

pub returns-then-not-allowed-clause-law : goal.returns-then-not-allowed-clause-law
returns-then-not-allowed-clause-law c = run-law c.args.names.now c.args.events.now c.loop-i.i c.loop-i.world c.loop-i.invariant

pub loop-i-preserved : goal.loop-i-preserved
loop-i-preserved c =
    let events : List Event = c.as_slice-events.result.now in
    run-goes c.args.names.now c.as_slice-names.result.now c.args.events.now events c.loop-i.i c.loop-i.world
    c.index-events-i.result c.in_ok-world-2.world
    c.as_slice-names.ensures c.as_slice-events.ensures c.loop-i.invariant c.loop-i-test.true
    c.index-events-i.is (c.in_ok-allowed.ensures.0 c.if-not-allowed.false) c.in_ok-world-2.ensures

pub returns-clause-law : goal.returns-clause-law
returns-clause-law c = run-law c.args.names.now c.args.events.now c.loop-i.i c.loop-i.world c.loop-i.invariant
