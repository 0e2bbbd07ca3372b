-- What stands in a step's place of a file (own).
use Rattle.std.specs.Prelude.{ℕ, ◌≡◌, List, ◌∷◌, ◌++◌}
use Rattle.commit_log.specs.Frames.{frame}
use Rattle.log_codec.specs.Steps.{body_of}
use Rattle.commit_log.specs.Steps.{IsStep}
use Rattle.commit_log.specs.Files.{IsUnread}
use Rattle.commit_log.specs.declared.frames.Place.{Place}
use Rattle.commit_log.specs.declared.frames.Place.TheVariants as place

-- what the bytes have at their front
abbrev pub Stands : List ℕ → Place → Type 0
Stands bytes place.Ends = (after : List ℕ) × (bytes ≡ 0 ∷ after)
Stands bytes (place.Step step after) = (bytes ≡ frame (body_of step) ++ after.now) × IsStep step
Stands bytes place.Unread = IsUnread bytes
