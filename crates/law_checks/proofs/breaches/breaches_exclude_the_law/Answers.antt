use Rattle.law_checks.proofs.BreachLemmas.{breach-excludes}
use Rattle.law_checks.proofs.breaches.breaches_exclude_the_law.Goals as goal

pub returns : goal.returns
returns c = breach-excludes
