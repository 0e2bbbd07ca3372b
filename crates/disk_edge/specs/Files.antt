-- A disk over a file of the system, as contracts see it, and how its calls answer (own).
use Rattle.std.specs.Prelude.{ℕ, ◌≡◌, Bool, true, false, Result, Ok, Err}
use Rattle.io_edge.specs.Memory.{raised}

-- a disk: whether a sync has failed, and how many calls have
pub record FileState : Type 0 where
  pub lost : Bool
  pub faults : ℕ

-- a disk before its first call
abbrev pub fresh_file : FileState
fresh_file = record { lost = false; faults = 0 }

-- a call was answered: once a sync has failed it is a failure, and each failure counts
abbrev pub FileAnswers : {T E : Type 0} → FileState → FileState → Result T E → Type 0
FileAnswers old new (Ok value) = (old.lost ≡ false) × (new ≡ old)
FileAnswers old new (Err fault) = new ≡ record old { faults = raised old.faults }

-- a sync was answered, and one that failed is the last to be tried
abbrev pub FileSyncs : {T E : Type 0} → FileState → FileState → Result T E → Type 0
FileSyncs old new (Ok value) = (old.lost ≡ false) × (new ≡ old)
FileSyncs old new (Err fault) = new ≡ record { lost = true; faults = raised old.faults }
