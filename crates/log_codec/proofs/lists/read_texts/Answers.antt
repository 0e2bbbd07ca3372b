use Rattle.log_codec.specs.Codes.{spelled_text, IsText}
use Rattle.log_codec.proofs.CodeLemmas.{items-none, text-one}
use Rattle.log_codec.proofs.lists.read_texts.Goals as goal

pub returns-in-None-clause-none : goal.returns-in-None-clause-none
returns-in-None-clause-none c =
    items-none IsText spelled_text text-one _ _ _ _ _ c.loop.invariant c.loop-test.true c.in-None.ensures.none
