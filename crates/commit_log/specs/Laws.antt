-- What is true of each file and each stop (own).
use Rattle.std.specs.Prelude.{ℕ, ◌≡◌, ◌⊎◌, List, [], ◌∷◌, ◌++◌}
use Rattle.commit_log.specs.Steps.{AreSteps, IsStep, Step}
use Rattle.commit_log.specs.Files.{IsDamaged, StandsFor}
use Rattle.commit_log.specs.Stops.{AfterStop, Halfway}

-- two lists of steps for which a file stands are one
abbrev pub OneReading : Type 0
OneReading = (file : List ℕ) (a b : List Step) → StandsFor file a → StandsFor file b → a ≡ b

-- a damaged file stands for no steps
abbrev pub DamageExcludes : Type 0
DamageExcludes = (file : List ℕ) (at : ℕ) (steps : List Step) → IsDamaged file at
    → StandsFor file steps → ⊥

-- two places at which a file is damaged are one
abbrev pub OneDamage : Type 0
OneDamage = (file : List ℕ) (a b : ℕ) → IsDamaged file a → IsDamaged file b → a ≡ b

-- a file that a stop leaves within an append stands for the steps before, with its own or without
abbrev pub AStopKeepsTheSteps : Type 0
AStopKeepsTheSteps = (steps : List Step) (step : Step) (file : List ℕ) → AreSteps steps
    → IsStep step → Halfway steps step file
    → StandsFor file steps ⊎ StandsFor file (steps ++ step ∷ [])

-- a file that a stop leaves within an append or between two is not damaged, and all that it stands
-- for are the steps before the append, or these and its own
abbrev pub StopsAreHarmless : Type 0
StopsAreHarmless = (steps : List Step) (step : Step) (file : List ℕ) → AfterStop steps step file
    → ((read : List Step) → StandsFor file read → (read ≡ steps) ⊎ (read ≡ steps ++ step ∷ []))
    × ((at : ℕ) → IsDamaged file at → ⊥)
