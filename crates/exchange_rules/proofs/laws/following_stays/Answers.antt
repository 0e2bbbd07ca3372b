use Rattle.exchange_rules.proofs.FollowLemmas.{follows_still}
use Rattle.exchange_rules.proofs.laws.following_stays.Goals as goal

pub returns : goal.returns
returns g c = λ me seen later had course accesses rest end.
    follows_still me seen later had course accesses rest end
