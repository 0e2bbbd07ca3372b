-- What is known of a step as it is written (own).
use Rattle.std.proofs.Common.{◌≡◌, ◌+◌, [], ◌∷◌, length, ap, arith, length-append}
use Rattle.log_codec.specs.Steps.{body_of}
use Rattle.commit_log.specs.Frames.{sized}
use Rattle.commit_log.specs.Steps.{IsStep, Step}
use Rattle.commit_log.specs.Spelling.{HasPlace, IsSpelled}
use Rattle.commit_log.specs.declared.log.Log.{Log}
use Rattle.commit_log.specs.declared.spelling.Spelled.{Spelled}
use Rattle.commit_log.proofs.FrameLemmas.{length-sized}

-- the piece is nine bytes longer than the body
pub length-piece : (entries : Step) (spelled : Spelled) → IsSpelled entries spelled
    → length spelled.piece ≡ 9 + length (body_of entries)
length-piece entries spelled is = omega
    (arith, ap length is.piece, length-append (sized (body_of entries)) (0 ∷ []), length-sized (body_of entries))

-- what a log has place for is a step
pub step-fits : {D : Type 0} (log : Log D) (entries : Step) (spelled : Spelled) → HasPlace log spelled
    → IsSpelled entries spelled → IsStep entries
step-fits log entries spelled place is = record {
  spelled = is.spellable;
  low = omega (arith, place.low, length-piece entries spelled is);
}
