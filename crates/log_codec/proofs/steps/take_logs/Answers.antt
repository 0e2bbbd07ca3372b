use Rattle.log_codec.specs.Steps.{spelled_log, IsSpellable}
use Rattle.log_codec.proofs.CodeLemmas.{items-none}
use Rattle.log_codec.proofs.StepLemmas.{log-one}
use Rattle.log_codec.proofs.steps.take_logs.Goals as goal

pub returns-in-None-clause-none : goal.returns-in-None-clause-none
returns-in-None-clause-none c =
    let none = rw c.in-None.is at c.in_ok-entry.ensures.none in
    items-none IsSpellable spelled_log log-one _ _ _ _ _ c.loop.invariant c.loop-test.true none
