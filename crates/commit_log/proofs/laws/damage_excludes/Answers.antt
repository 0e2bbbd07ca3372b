use Rattle.commit_log.proofs.StepLemmas.{damage-excludes}
use Rattle.commit_log.proofs.laws.damage_excludes.Goals as goal

pub returns : goal.returns
returns c = damage-excludes
