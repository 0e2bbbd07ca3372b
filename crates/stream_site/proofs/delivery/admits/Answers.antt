use Rattle.once_core.proofs.WrittenLemmas.{admits_fails, admits_goes, admits_all}
use Rattle.stream_site.proofs.delivery.admits.Goals as goal

pub returns-then-reaches : goal.returns-then-reaches
returns-then-reaches c =
    admits_fails c.args.entries.now c.loop-entry.entry-index c.entry-item.result c.args.src.now
    c.args.id.now c.args.version c.reaches.result
    c.loop-entry-test.true c.entry-item.is c.loop-entry.invariant c.reaches.ensures
    c.if-reaches.true

pub loop-entry-preserved : goal.loop-entry-preserved
loop-entry-preserved c =
    admits_goes c.args.entries.now c.loop-entry.entry-index c.entry-item.result c.args.src.now
    c.args.id.now c.args.version c.reaches.result
    c.loop-entry-test.true c.entry-item.is c.loop-entry.invariant c.reaches.ensures
    c.if-reaches.false

pub returns : goal.returns
returns c =
    admits_all c.args.entries.now c.loop-entry.entry-index c.args.src.now c.args.id.now
    c.args.version c.loop-entry-test.false c.loop-entry.invariant
