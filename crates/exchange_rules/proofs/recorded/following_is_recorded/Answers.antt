use Rattle.exchange_rules.proofs.RecordedLemmas.{follows_recorded}
use Rattle.exchange_rules.proofs.recorded.following_is_recorded.Goals as goal

pub returns : goal.returns
returns g c = λ me seen had course accesses rest end.
    follows_recorded me seen had course accesses rest end
