use Rattle.std.proofs.Common.{sym, ◌∙◌, arith}
use Rattle.once_core.proofs.SeenLemmas.{place-here, place-on, place-end}
use Rattle.once_core.proofs.cells.place_of.Goals as goal

pub returns-then-left-shards-clause-value : goal.returns-then-left-shards-clause-value
returns-then-left-shards-clause-value c =
    sym (c.loop-collection.invariant
    ∙ place-here c.args.names.now c.loop-collection.collection-index c.collection-item.result c.loop-collection-test.true c.collection-item.is
    c.loop-collection.left (omega arith))

pub loop-collection-preserved : goal.loop-collection-preserved
loop-collection-preserved c =
    rw c.from-shards.ensures
    (c.loop-collection.invariant
    ∙ place-on c.args.names.now c.loop-collection.collection-index c.collection-item.result c.loop-collection-test.true c.collection-item.is
    c.loop-collection.left (omega arith))

pub returns-clause-value : goal.returns-clause-value
returns-clause-value c =
    sym (c.loop-collection.invariant ∙ place-end c.args.names.now c.loop-collection.collection-index c.loop-collection.left c.loop-collection-test.false)
