use Rattle.std.proofs.Common.{bytes_eq, sym, ap, ◌∙◌}
use Rattle.once_core.proofs.SeenLemmas.{shards-here, shards-on, shards-end}
use Rattle.law_checks.proofs.cells.shards_of.Goals as goal

pub returns-then-eq : goal.returns-then-eq
returns-then-eq c =
    let name = c.args.collection.now in
    sym (c.loop-entry.invariant
    ∙ shards-here c.args.names.now c.loop-entry.entry-index c.entry-item.result c.loop-entry-test.true c.entry-item.is name
    (ap (λ t. bytes_eq t name) (sym c.as_str.ensures) ∙ sym c.eq.ensures ∙ c.if-eq.true))

pub loop-entry-preserved : goal.loop-entry-preserved
loop-entry-preserved c =
    let name = c.args.collection.now in
    c.loop-entry.invariant
    ∙ shards-on c.args.names.now c.loop-entry.entry-index c.entry-item.result c.loop-entry-test.true c.entry-item.is name
    (ap (λ t. bytes_eq t name) (sym c.as_str.ensures) ∙ sym c.eq.ensures ∙ c.if-eq.false)

pub returns : goal.returns
returns c =
    sym (c.loop-entry.invariant ∙ shards-end c.args.names.now c.loop-entry.entry-index c.args.collection.now c.loop-entry-test.false)
