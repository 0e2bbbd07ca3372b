use Rattle.json_text.proofs.PiecesLemmas.{concat-pieces_of}
use Rattle.json_text.proofs.laws.pieces_are_the_body.Goals as goal

pub returns : goal.returns
returns c = concat-pieces_of
