-- A cell that may have a log (own).
use Rattle.std.specs.Prelude.{ℕ, Bool, false, List, Option, Some, None, option_to_list}
use Rattle.std.specs.List.{flat_map}
use Rattle.exchange_rules.specs.Cells as cells
use Rattle.site_laws.specs.declared.cell_about.CellAbout.{CellAbout}
use Rattle.site_laws.specs.declared.sealing.Sealing.{Sealing}
use Rattle.site_cells.specs.Values.{about_of, log_in, HasRoomFor}
use Rattle.site_cells.specs.declared.cell_value.CellValue.{CellValue}
use Rattle.commit_log.specs.Logs as logs
use Rattle.commit_log.specs.declared.log.Log.{Log}
use Rattle.logged_cells.specs.Steps.{IsAhead, IsInStep}
use Rattle.logged_cells.specs.declared.logged_cell.LoggedCell.{LoggedCell}

module _ {D : Type 0} where
  -- what is fixed of the cell
  abbrev pub about_in : LoggedCell D → CellAbout
  about_in cell = about_of cell.names.value cell.value

  -- what it holds
  abbrev pub value_of : LoggedCell D → CellValue
  value_of cell = cell.value

  -- its entries
  abbrev pub log_of_cell : LoggedCell D → cells.Log
  log_of_cell cell = log_in cell.value

  -- the logs of those cells that have one
  abbrev pub logs_in : List (LoggedCell D) → List (Log D)
  logs_in cells = flat_map (λ cell. option_to_list cell.log) cells

  -- whether there is a log, and it is shut
  abbrev pub is_shut_in : Option (Log D) → Bool
  is_shut_in None = false
  is_shut_in (Some log) = logs.is_shut log

  -- how often the log's disk has failed; 0 where there is no log
  abbrev pub faults_in : (D → ℕ) → Option (Log D) → ℕ
  faults_in faults None = 0
  faults_in faults (Some log) = faults (logs.disk_of log)

  -- whether the cell is shut for good
  abbrev pub is_closed : LoggedCell D → Bool
  is_closed cell = is_shut_in cell.log

  -- how often its disk has failed
  abbrev pub faults_of : (D → ℕ) → LoggedCell D → ℕ
  faults_of faults cell = faults_in faults cell.log

  module _ (seen : D → Option (List ℕ)) (may_leave : D → List ℕ → Type 0) where
    -- the log, if there is one, has just the cell's entries
    abbrev pub IsInStepWith : CellValue → Option (Log D) → Type 0
    IsInStepWith value None = Unit {0}
    IsInStepWith value (Some log) = IsInStep seen may_leave value log

    -- it is one step ahead of the cell
    abbrev pub IsAheadWith : CellValue → Sealing → Option (Log D) → Type 0
    IsAheadWith value sealing None = Unit {0}
    IsAheadWith value sealing (Some log) = IsAhead seen may_leave value sealing log

    -- what lies in a cell whose turn nobody has
    abbrev pub IsSettled : LoggedCell D → Type 0
    IsSettled cell = ∥ IsInStepWith cell.value cell.log ∥₁

    -- there is room in the cell and in its log, which has the sealing already
    abbrev pub HasRoom : LoggedCell D → Sealing → Type 0
    HasRoom cell sealing =
        HasRoomFor cell.value sealing × ∥ IsAheadWith cell.value sealing cell.log ∥₁
