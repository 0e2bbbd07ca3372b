-- What a log knows of its file (own).
use Rattle.std.specs.Prelude.{ℕ, ◌≡◌, ◌<◌, ◌^◌, List, [], ◌∷◌, ◌++◌, Option, Some, None, Result, Ok, Err, Bool, true, false, length}
use Rattle.disk_edge.specs.Disk.{IfTold, Only}
use Rattle.commit_log.specs.Frames.{end_of}
use Rattle.log_codec.specs.Steps.{body_of}
use Rattle.commit_log.specs.Steps.{bodies_of, AreSteps, IsStep, Step}
use Rattle.commit_log.specs.Stops.{file_of, Halfway}
use Rattle.commit_log.specs.declared.log.Log.{Log}
use Rattle.commit_log.specs.declared.log.Attached.{Attached}
use Rattle.commit_log.specs.declared.log.AttachFault.{AttachFault}

-- the disk of the log
abbrev pub disk_of : {D : Type 0} → Log D → D
disk_of log = log.disk

-- the disk of the log that an opening made, or the one that it hands back with a fault
abbrev pub disk_in : {D : Type 0} → Result (Attached D) (AttachFault D) → D
disk_in (Ok attached) = disk_of attached.log
disk_in (Err refused) = refused.disk

-- whether the log's disk failed, and then its reopening
abbrev pub is_shut : {D : Type 0} → Log D → Bool
is_shut log = log.shut

-- the steps, with the further one where it stands
abbrev pub settled : List Step → Step → Bool → List Step
settled steps step true = steps ++ step ∷ []
settled steps step false = steps

module _ {D : Type 0} (seen : D → Option (List ℕ)) (may_leave : D → List ℕ → Type 0) where
  -- the log's file is these steps, all of it on the disk; no append waits, and the log isn't shut
  pub record IsSettled (steps : List Step) (log : Log D) : Type 0 where
    pub fits : AreSteps steps
    pub place : log.end ≡ end_of (bodies_of steps)
    pub idle : log.flight ≡ None
    pub sound : log.shut ≡ false
    pub told : IfTold (seen log.disk) (λ file. (file ≡ file_of steps)
        × Only file (may_leave log.disk))

  -- an append of the step failed: the file is these steps, with it or without, and so is all that a
  -- stop may leave
  pub record IsInFlight (steps : List Step) (step : Step) (log : Log D) : Type 0 where
    pub fits : AreSteps steps
    pub step_fits : IsStep step
    pub place : log.end ≡ end_of (bodies_of steps)
    pub near : log.end < 2 ^ 62
    pub low : length (body_of step) < 2 ^ 62
    pub flight : log.flight ≡ Some (length (body_of step))
    pub sound : log.shut ≡ false
    pub told : IfTold (seen log.disk) (λ file. Halfway steps step file
        × ((c : List ℕ) → may_leave log.disk c → Halfway steps step c))
