use Rattle.log_codec.specs.Codes.{spelled_number, IsNumber}
use Rattle.log_codec.proofs.CodeLemmas.{items-none, number-one}
use Rattle.log_codec.proofs.lists.read_numbers.Goals as goal

pub returns-in-None-clause-none : goal.returns-in-None-clause-none
returns-in-None-clause-none c =
    items-none IsNumber spelled_number number-one _ _ _ _ _ c.loop.invariant c.loop-test.true c.in-None.ensures.none
