use Rattle.exchange_rules.proofs.RecordedLemmas.{follows_looked}
use Rattle.exchange_rules.proofs.recorded.following_is_looked_at.Goals as goal

pub returns : goal.returns
returns g c = λ me seen had course accesses rest end.
    follows_looked me seen had course accesses rest end
