-- A step as an append writes it, and the log that it is written to (own).
use Rattle.std.specs.Prelude.{◌≡◌, ◌+◌, ◌<◌, ◌≤◌, ◌^◌, [], ◌∷◌, ◌++◌, length}
use Rattle.log_codec.specs.Steps.{body_of, AreSpellable}
use Rattle.commit_log.specs.Frames.{sized}
use Rattle.commit_log.specs.Steps.{Step}
use Rattle.commit_log.specs.declared.log.Log.{Log}
use Rattle.commit_log.specs.declared.spelling.Spelled.{Spelled}

-- the piece is these entries' body, behind its length, and the byte that ends the steps
pub record IsSpelled (entries : Step) (spelled : Spelled) : Type 0 where
  pub spellable : AreSpellable entries
  pub piece : spelled.piece ≡ sized (body_of entries) ++ (0 ∷ [])

-- the piece has a body below 2^62 bytes, and the log ends below that place
pub record HasPlace {D : Type 0} (log : Log D) (spelled : Spelled) : Type 0 where
  pub near : log.end < 2 ^ 62
  pub long : 9 ≤ length spelled.piece
  pub low : length spelled.piece < 2 ^ 62 + 9
