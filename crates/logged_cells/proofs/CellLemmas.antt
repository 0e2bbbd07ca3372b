-- A cell and its log, after a step.
use Rattle.std.proofs.Common.{◌≡◌, ℕ, false, List, [], ◌∷◌, ◌++◌, map, refl, sym, ap, ◌∙◌, append-nil}
use Rattle.std.specs.Prelude.{Option, Some, None, option_to_list}
use Rattle.std.proofs.lemmas.Grind.{flat_map-append}
use Rattle.std.proofs.lemmas.List.{map-append}
use Rattle.site_laws.specs.Sealings.{entries_of}
use Rattle.site_laws.specs.declared.sealing.Sealing.{Sealing}
use Rattle.site_cells.specs.Values.{log_in}
use Rattle.site_cells.specs.declared.cell_value.CellValue.{CellValue}
use Rattle.commit_log.specs.Steps.{Step}
use Rattle.commit_log.specs.declared.log.Log.{Log}
use Rattle.logged_cells.specs.Cells.{is_shut_in, logs_in, value_of, IsAheadWith, IsInStepWith}
use Rattle.logged_cells.specs.Steps.{entries_in}
use Rattle.logged_cells.specs.declared.logged_cell.LoggedCell.{LoggedCell}

-- the entries of one step more
entries-push : (steps : List Step) (step : Step)
    → entries_in (steps ++ step ∷ []) ≡ entries_in steps ++ step
entries-push steps step =
    flat_map-append (λ s. s) steps (step ∷ []) ∙ ap (λ l. entries_in steps ++ l) (append-nil step)

module _ {D : Type 0} where
  module _ (seen : D → Option (List ℕ)) (may_leave : D → List ℕ → Type 0) where
    -- the value has what the log had, once it is appended
    pub caught-up : (v w : CellValue) (x : Sealing) (o : Option (Log D))
        → log_in w ≡ log_in v ++ entries_of x → IsAheadWith seen may_leave v x o
        → IsInStepWith seen may_leave w o
    caught-up v w x None e a = tt
    caught-up v w x (Some log) e a = record {
      steps = a.steps ++ entries_of x ∷ [];
      same = entries-push a.steps (entries_of x) ∙ (ap (λ l. l ++ entries_of x) a.same ∙ sym e);
      settled = a.settled;
    }

    -- a log that is one step ahead isn't shut
    pub ahead-sound : (v : CellValue) (x : Sealing) (o : Option (Log D))
        → IsAheadWith seen may_leave v x o → is_shut_in o ≡ false
    ahead-sound v x None a = refl
    ahead-sound v x (Some log) a = a.settled.sound

  -- one cell more
  pub values-push : (cells : List (LoggedCell D)) (cell : LoggedCell D) (values : List CellValue)
      (value : CellValue) → values ≡ map value_of cells → value ≡ value_of cell
      → values ++ value ∷ [] ≡ map value_of (cells ++ cell ∷ [])
  values-push cells cell values value e f =
      (λ i. e i ++ f i ∷ []) ∙ sym (map-append value_of cells (cell ∷ []))

  pub logs-push : (cells : List (LoggedCell D)) (cell : LoggedCell D) (logs : List (Log D))
      (log : Option (Log D)) → logs ≡ logs_in cells → log ≡ cell.log
      → logs ++ option_to_list log ≡ logs_in (cells ++ cell ∷ [])
  logs-push cells cell logs log e f =
      (λ i. e i ++ option_to_list (f i))
      ∙ (ap (λ l. logs_in cells ++ l) (sym (append-nil (option_to_list cell.log)))
      ∙ sym (flat_map-append (λ (c : LoggedCell D). option_to_list c.log) cells (cell ∷ [])))
