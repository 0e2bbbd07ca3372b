use Rattle.exchange_rules.proofs.RunLemmas.{runs_first}
use Rattle.exchange_rules.proofs.laws.runs_look_first.Goals as goal

pub returns : goal.returns
returns g c = runs_first
