use Rattle.exchange_rules.specs.Following.{counts}
use Rattle.exchange_rules.proofs.CountLemmas.{follows_counted}
use Rattle.exchange_rules.proofs.laws.own_steps_are_recorded.Goals as goal

pub returns : goal.returns
returns g c = λ old new course rest r cell.
    (follows_counted old.me new.seen (counts old.seen) course r.accesses rest (counts new.seen) cell
    r.followed).counted
