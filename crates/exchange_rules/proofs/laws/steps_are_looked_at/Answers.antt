use Rattle.std.specs.Prelude.{None}
use Rattle.exchange_rules.specs.Following.{counts}
use Rattle.exchange_rules.proofs.LookingLemmas.{follows_behind}
use Rattle.exchange_rules.proofs.laws.steps_are_looked_at.Goals as goal

pub returns : goal.returns
returns g c = λ old new course rest first r.
    follows_behind old.me new.seen (counts old.seen) course r.accesses rest
    (counts new.seen) None None
    first tt r.followed
