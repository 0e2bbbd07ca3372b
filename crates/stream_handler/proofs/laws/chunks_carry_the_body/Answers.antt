use Rattle.std.proofs.Common.{[], refl, subst}
use Rattle.std.specs.List.{concat}
use Rattle.json_text.proofs.PiecesLemmas.{concat-pieces_of}
use Rattle.json_text.specs.Pieces.{pieces_of}
use Rattle.stream_handler.specs.Chunks.{chunks_from, IsChunked}
use Rattle.stream_handler.proofs.CarryLemmas.{chunks_carry}
use Rattle.stream_handler.proofs.laws.chunks_carry_the_body.Goals as goal

pub returns : goal.returns
returns c = λ closes docs exception millis.
    let pieces = pieces_of docs exception millis in (
      concat (chunks_from [] pieces),
      refl,
      subst (IsChunked (concat (chunks_from [] pieces))) (concat-pieces_of docs exception millis)
          (chunks_carry pieces),
    )
