-- A row of doors, as contracts see it (own).
use Rattle.std.specs.Prelude.{List, Option}
use Rattle.once_core.specs.declared.world.Histories.{Histories}

-- the doors, and the histories with which the site of the last server over them was closed, if it was
pub record Row (D : Type 0) : Type 0 where
  pub doors : List D
  pub ended : Option Histories
