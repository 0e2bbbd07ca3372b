use Rattle.std.proofs.Math.Bool.{Bool-set}
use Rattle.std.proofs.Math.Logic.{∥∥₁_elim, ∥∥₁_map}
use Rattle.logged_cells.proofs.CellLemmas.{ahead-sound, caught-up}
use Rattle.logged_cells.proofs.logged_cell.LoggedCellCellState.append.Goals as goal

pub returns-clause-settled : goal.returns-clause-settled
returns-clause-settled g c =
    let cell = c.args.self.now in
    ∥∥₁_map c.requires.1 (caught-up g.D.Disk.seen g.D.Disk.may_leave cell.value c.append.new.self
    c.args.sealing cell.log c.append.ensures.log)

pub returns-clause-sound : goal.returns-clause-sound
returns-clause-sound g c =
    let cell = c.args.self.now in
    ∥∥₁_elim c.requires.1 (Bool-set _ _)
    (ahead-sound g.D.Disk.seen g.D.Disk.may_leave cell.value c.args.sealing cell.log)
