-- The steps of a log, and their bodies (own).
use Rattle.std.specs.Prelude.{ℕ, ◌^◌, ◌<◌, List, [], ◌∷◌, length, map}
use Rattle.log_codec.specs.Steps.{body_of, AreSpellable}
use Rattle.exchange_rules.specs.declared.log_entry.LogEntry.{LogEntry}

-- a step: entries that are appended together
abbrev pub Step : Type 0
Step = List LogEntry

-- the bodies of steps
abbrev pub bodies_of : List Step → List (List ℕ)
bodies_of steps = map body_of steps

-- the step has a spelling, whose length is a number of 64 bits
pub record IsStep (step : Step) : Type 0 where
  pub spelled : AreSpellable step
  pub low : length (body_of step) < 2 ^ 64

-- each of these is a step
abbrev pub AreSteps : List Step → Type 0
AreSteps [] = Unit {0}
AreSteps (step ∷ steps) = IsStep step × AreSteps steps
