-- What a file of steps stands for, and where it is damaged (own).
use Rattle.std.specs.Prelude.{ℕ, ◌≡◌, ◌≢◌, ◌⊎◌, List, [], ◌∷◌, ◌++◌}
use Rattle.commit_log.specs.Frames.{closed, end_of, frame, frames, magic}
use Rattle.log_codec.specs.Steps.{body_of}
use Rattle.commit_log.specs.Steps.{bodies_of, AreSteps, IsStep, Step}
use Rattle.commit_log.specs.declared.fault.LogFault.{LogFault}
use Rattle.commit_log.specs.declared.fault.LogFault.TheVariants.{DiskFault, Damaged, OutOfMemory}

-- the file is these steps, the byte that ends them, and whatever follows it
pub record IsFileOf (steps : List Step) (file : List ℕ) : Type 0 where
  pub rest : List ℕ
  pub is : file ≡ closed (bodies_of steps) rest
  pub fits : AreSteps steps

-- the file stands for these steps; an empty file stands for none
abbrev pub StandsFor : List ℕ → List Step → Type 0
StandsFor file steps = ((file ≡ []) × (steps ≡ [])) ⊎ IsFileOf steps file

-- no step stands at the front, and no byte that ends the steps
pub record IsUnread (rest : List ℕ) : Type 0 where
  pub not_ended : (after : List ℕ) → rest ≢ 0 ∷ after
  pub no_step : (step : Step) (after : List ℕ) → IsStep step → rest ≢ frame (body_of step) ++ after

-- these steps stand at the front of the file, up to a place, and the rest follows
pub record IsReadTo (file rest : List ℕ) (steps : List Step) (at : ℕ) : Type 0 where
  pub is : file ≡ magic ++ (frames (bodies_of steps) ++ rest)
  pub place : at ≡ end_of (bodies_of steps)
  pub fits : AreSteps steps

-- the file isn't empty and doesn't begin as a file of steps does
pub record HasNoMagic (file : List ℕ) : Type 0 where
  pub not_empty : file ≢ []
  pub other : (after : List ℕ) → file ≢ magic ++ after

-- the file begins otherwise, or behind some steps no further one can be read
abbrev pub IsDamaged : List ℕ → ℕ → Type 0
IsDamaged file at = ((at ≡ 0) × HasNoMagic file)
    ⊎ ((steps : List Step) × (rest : List ℕ) × IsReadTo file rest steps at × IsUnread rest)

-- why a file was refused
abbrev pub Explains : List ℕ → LogFault → Type 0
Explains file (Damaged at) = IsDamaged file at
Explains file DiskFault = Unit {0}
Explains file OutOfMemory = Unit {0}
