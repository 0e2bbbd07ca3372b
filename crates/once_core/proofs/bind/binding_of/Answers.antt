use Rattle.std.proofs.Common.{sym, ◌∙◌}
use Rattle.once_core.proofs.StoreLemmas.{bound-here, bound-on, bound-end}
use Rattle.once_core.proofs.bind.binding_of.Goals as goal

pub returns-in-Some : goal.returns-in-Some
returns-in-Some c =
    sym (c.loop-entry.invariant
    ∙ bound-here c.args.key.now c.args.book.now c.loop-entry.entry-index c.entry-item.result c.loop-entry-test.true c.entry-item.is
    c.in-Some.binding.now c.in-Some.ensures)

pub loop-entry-preserved : goal.loop-entry-preserved
loop-entry-preserved c =
    c.loop-entry.invariant
    ∙ bound-on c.args.key.now c.args.book.now c.loop-entry.entry-index c.entry-item.result c.loop-entry-test.true c.entry-item.is
    c.in-None.ensures

pub returns : goal.returns
returns c =
    sym (c.loop-entry.invariant ∙ bound-end c.args.key.now c.args.book.now c.loop-entry.entry-index c.loop-entry-test.false)
