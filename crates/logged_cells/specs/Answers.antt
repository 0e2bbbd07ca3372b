-- What the answers of a cell with a log tell (own).
use Rattle.std.specs.Prelude.{Bool, true, false}
use Rattle.site_laws.specs.declared.sealing.Sealing.{Sealing}
use Rattle.site_cells.specs.Values.{IsRefused, IsTaken}
use Rattle.site_cells.specs.declared.cell_value.CellValue.{CellValue}
use Rattle.logged_cells.specs.declared.logged_cell.Made.{Made}
use Rattle.logged_cells.specs.declared.logged_cell.Made.TheVariants.{Clean, Broke}
use Rattle.logged_cells.specs.declared.refusal.LoggedRefusal.{LoggedRefusal}
use Rattle.logged_cells.specs.declared.refusal.LoggedRefusal.TheVariants.{NoRoom, LogFault}

-- the log failed, and stands again with the step
abbrev pub is_broken : Made → Bool
is_broken Clean = false
is_broken Broke = true

-- the log failed, and the step doesn't stand, or the log is shut
abbrev pub is_log_fault : LoggedRefusal → Bool
is_log_fault (NoRoom refusal) = false
is_log_fault LogFault = true

-- why the step isn't appended; the log is asked only for one that the cell takes
abbrev pub IsCause : CellValue → Sealing → LoggedRefusal → Type 0
IsCause value sealing (NoRoom refusal) = IsRefused value sealing refusal
IsCause value sealing LogFault = IsTaken value sealing
