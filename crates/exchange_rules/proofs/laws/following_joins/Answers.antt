use Rattle.exchange_rules.proofs.ReachLemmas.{reaches_join}
use Rattle.exchange_rules.proofs.laws.following_joins.Goals as goal

pub returns : goal.returns
returns g c = λ old mid new course rest last. reaches_join old mid new course rest last
