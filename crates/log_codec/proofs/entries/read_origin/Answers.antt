use Rattle.log_codec.specs.Codes.{spelled_number, spelled_text, IsNumber, IsText}
use Rattle.log_codec.proofs.CodeLemmas.{text-one}
use Rattle.log_codec.proofs.PairLemmas.{pair-no_second}
use Rattle.log_codec.proofs.entries.read_origin.Goals as goal

pub returns-in-None-read_number-clause-none : goal.returns-in-None-read_number-clause-none
returns-in-None-read_number-clause-none c =
    pair-no_second IsText IsNumber spelled_text spelled_number text-one _ _ _ c.in-Some.ensures.some c.in-None-read_number.ensures.none
