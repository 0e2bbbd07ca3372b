use Rattle.std.proofs.Math.Bool.{Bool-set}
use Rattle.std.proofs.Math.Logic.{∥∥₁_elim}
use Rattle.logged_cells.proofs.logged_cell.LoggedCell.logged.Goals as goal

pub returns-clause-sound : goal.returns-clause-sound
returns-clause-sound g c =
    (c.requires, ∥∥₁_elim c.requires (Bool-set _ _) (λ s. s.settled.sound))
