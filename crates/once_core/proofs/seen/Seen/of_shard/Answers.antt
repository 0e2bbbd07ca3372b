use Rattle.std.proofs.Common.{ap, ◌∙◌, ◌≤◌, length, arith}
use Rattle.once_core.specs.Cells.{cell_of, history_at}
use Rattle.once_core.specs.Worlds.{seen_by}
use Rattle.once_core.proofs.SeenLemmas.{seen-far, capped-near}
use Rattle.once_core.proofs.seen.Seen.of_shard.Goals as goal

pub returns-then-cell-len : goal.returns-then-cell-len
returns-then-cell-len c =
    let s = c.args.self.now in
    let far : length s.world.now.histories.shards ≤ c.cell_of-cell.result = omega arith in
    seen-far s.actor s.world.now (cell_of s.names.now c.args.collection.now c.args.shard) c.cell_of-cell.result
    c.cell_of-cell.ensures far

pub returns : goal.returns
returns c =
    let s = c.args.self.now in
    c.history.ensures
    ∙ ap (history_at (seen_by s.actor s.world.now))
    (capped-near (cell_of s.names.now c.args.collection.now c.args.shard) c.cell_of-cell.result c.len.result
    c.cell_of-cell.ensures (omega arith) (omega arith))
