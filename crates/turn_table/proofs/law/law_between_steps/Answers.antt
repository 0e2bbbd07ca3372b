use Rattle.std.proofs.Common.{map}
use Rattle.turn_table.proofs.MomentLemmas.{moment_of}
use Rattle.turn_table.proofs.law.law_between_steps.Goals as goal

pub returns : goal.returns
returns g c opening s kept =
    let T = g.C.CellState in let cells = opening.cells.value in
    moment_of T.about T.history T.writer T.law T.tells T.settled T.is_shut T.fault_count (map
    T.about cells) (map T.history cells)
    opening.numbers.value s kept
