-- A cell's value, and the log of its steps (own).
use Rattle.std.specs.Prelude.{ℕ, ◌≡◌, List, [], ◌∷◌, ◌++◌, Option}
use Rattle.std.specs.List.{flat_map}
use Rattle.exchange_rules.specs.Cells as cells
use Rattle.site_laws.specs.Sealings.{entries_of}
use Rattle.site_laws.specs.declared.sealing.Sealing.{Sealing}
use Rattle.site_cells.specs.Values.{log_in}
use Rattle.site_cells.specs.declared.cell_value.CellValue.{CellValue}
use Rattle.commit_log.specs.Logs.{IsSettled}
use Rattle.commit_log.specs.Steps.{Step}
use Rattle.commit_log.specs.declared.log.Log.{Log}

-- the entries of steps, one step after another
abbrev pub entries_in : List Step → cells.Log
entries_in steps = flat_map (λ step. step) steps

module _ {D : Type 0} (seen : D → Option (List ℕ)) (may_leave : D → List ℕ → Type 0) where
  -- the log has just the value's entries, and waits for nothing
  pub record IsInStep (value : CellValue) (log : Log D) : Type 0 where
    pub steps : List Step
    pub same : entries_in steps ≡ log_in value
    pub settled : IsSettled seen may_leave steps log

  -- the log is one step ahead of the value: that of the sealing
  pub record IsAhead (value : CellValue) (sealing : Sealing) (log : Log D) : Type 0 where
    pub steps : List Step
    pub same : entries_in steps ≡ log_in value
    pub settled : IsSettled seen may_leave (steps ++ entries_of sealing ∷ []) log
