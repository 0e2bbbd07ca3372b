use Rattle.commit_log.proofs.StepLemmas.{a-stop-keeps-the-steps}
use Rattle.commit_log.proofs.laws.a_stop_keeps_the_steps.Goals as goal

pub returns : goal.returns
returns c = a-stop-keeps-the-steps
