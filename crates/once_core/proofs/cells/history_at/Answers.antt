use Rattle.std.proofs.Common.{[], sym}
use Rattle.once_core.proofs.CellLemmas.{got_none}
use Rattle.std.proofs.Common.{[]}
use Rattle.once_core.proofs.cells.history_at.Goals as goal

-- src/cells.rt:97:1
pub returns-in-None : goal.returns-in-None
returns-in-None c = sym (got_none c.args.histories.now.shards c.args.cell [] c.in-None.ensures)
