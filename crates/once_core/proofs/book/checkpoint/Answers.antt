use Rattle.std.proofs.Common.{max, ap, ◌∙◌}
use Rattle.once_core.proofs.WrittenLemmas.{checkpoint_more, checkpoint_all}
use Rattle.once_core.proofs.book.checkpoint.Goals as goal

pub loop-entry-preserved : goal.loop-entry-preserved
loop-entry-preserved c =
    checkpoint_more c.args.key.now c.args.book.now c.args.shard c.loop-entry.entry-index c.entry-item.result c.loop-entry.greatest c.max-greatest.result
    c.loop-entry-test.true c.entry-item.is c.loop-entry.invariant
    (c.max-greatest.ensures ∙ ap (max c.loop-entry.greatest) c.stored.ensures)

pub returns : goal.returns
returns c = checkpoint_all c.args.key.now c.args.book.now c.args.shard c.loop-entry.entry-index c.loop-entry.greatest c.loop-entry-test.false c.loop-entry.invariant
