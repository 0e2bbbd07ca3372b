use Rattle.std.proofs.Common.{bytes_eq, sym, ap, ◌∙◌, ◌+◌, ◌-◌, ◌^◌, min, drop}
use Rattle.once_core.proofs.SeenLemmas.{cell-here, cell-on, cell-end, capped-more, capped-end}
use Rattle.once_core.specs.Cells.{cell_of}
use Rattle.law_checks.proofs.cells.cell_of.Goals as goal

pub returns-then-eq : goal.returns-then-eq
returns-then-eq c =
    let name = c.args.collection.now in
    capped-end (cell_of c.args.names.now name c.args.shard) c.loop-entry.before
    (cell_of (drop c.loop-entry.entry-index c.args.names.now) name c.args.shard) c.args.shard c.saturating_add.result
    (2 ^ 64 - 1) c.loop-entry.invariant
    (cell-here c.args.names.now c.loop-entry.entry-index c.entry-item.result c.loop-entry-test.true c.entry-item.is name c.args.shard
    (ap (λ t. bytes_eq t name) (sym c.as_str.ensures) ∙ sym c.eq.ensures ∙ c.if-eq.true))
    (c.saturating_add.ensures ∙ ap (λ n. min (c.loop-entry.before + n) (2 ^ 64 - 1)) c.from.ensures)

pub loop-entry-preserved : goal.loop-entry-preserved
loop-entry-preserved c =
    let name = c.args.collection.now in
    let rest = cell_of (drop (c.loop-entry.entry-index + 1) c.args.names.now) name c.args.shard in
    capped-more (cell_of c.args.names.now name c.args.shard) c.loop-entry.before c.entry-item.result.shards rest
    c.saturating_add-before.result (2 ^ 64 - 1)
    (c.loop-entry.invariant
    ∙ ap (λ n. min (c.loop-entry.before + n) (2 ^ 64 - 1))
    (cell-on c.args.names.now c.loop-entry.entry-index c.entry-item.result c.loop-entry-test.true c.entry-item.is name c.args.shard
    (ap (λ t. bytes_eq t name) (sym c.as_str.ensures) ∙ sym c.eq.ensures ∙ c.if-eq.false)))
    (c.saturating_add-before.ensures ∙ ap (λ n. min (c.loop-entry.before + n) (2 ^ 64 - 1)) c.from-in-loop-entry.ensures)

pub returns : goal.returns
returns c =
    let name = c.args.collection.now in
    capped-end (cell_of c.args.names.now name c.args.shard) c.loop-entry.before
    (cell_of (drop c.loop-entry.entry-index c.args.names.now) name c.args.shard) c.args.shard c.saturating_add-2.result
    (2 ^ 64 - 1) c.loop-entry.invariant
    (cell-end c.args.names.now c.loop-entry.entry-index name c.args.shard c.loop-entry-test.false)
    (c.saturating_add-2.ensures ∙ ap (λ n. min (c.loop-entry.before + n) (2 ^ 64 - 1)) c.from-2.ensures)
