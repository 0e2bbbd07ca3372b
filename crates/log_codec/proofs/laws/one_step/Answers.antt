use Rattle.log_codec.proofs.StepLemmas.{body-one}
use Rattle.log_codec.proofs.laws.one_step.Goals as goal

pub returns : goal.returns
returns c = body-one
