use Rattle.log_codec.specs.Codes.{spelled_text, IsText}
use Rattle.log_codec.proofs.CodeLemmas.{text-one}
use Rattle.log_codec.proofs.PairLemmas.{pair-no_second}
use Rattle.log_codec.proofs.bindings.read_texts.Goals as goal

pub returns-in-None-read_text-clause-none : goal.returns-in-None-read_text-clause-none
returns-in-None-read_text-clause-none c =
    pair-no_second IsText IsText spelled_text spelled_text text-one _ _ _ c.in-Some.ensures.some c.in-None-read_text.ensures.none
