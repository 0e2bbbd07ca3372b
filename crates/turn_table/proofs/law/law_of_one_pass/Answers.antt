use Rattle.turn_table.proofs.AloneLemmas.{alone-adds}
use Rattle.turn_table.proofs.law.law_of_one_pass.Goals as goal

pub returns : goal.returns
returns g c = alone-adds g.C.CellState.writer
