use Rattle.exchange_rules.proofs.ReachLemmas.{reaches_then}
use Rattle.exchange_rules.proofs.laws.following_goes_on.Goals as goal

pub returns : goal.returns
returns g c = λ old new course rest next. reaches_then old new course rest next
