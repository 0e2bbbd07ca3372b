use Rattle.daemon_steps.proofs.LookLemmas.{steps_first}
use Rattle.daemon_steps.proofs.laws.steps_look_first.Goals as goal

pub returns : goal.returns
returns c = steps_first
