use Rattle.commit_log.proofs.StepLemmas.{one-damage}
use Rattle.commit_log.proofs.laws.one_damage.Goals as goal

pub returns : goal.returns
returns c = one-damage
