use Rattle.law_checks.proofs.RightLemmas.{right-none}
use Rattle.law_checks.proofs.BreachLemmas.{law-from}
use Rattle.law_checks.proofs.breaches.first_breach.Goals as goal

pub returns-in-Some-2 : goal.returns-in-Some-2
returns-in-Some-2 c = (
  right-none c.args.names.now c.args.histories.now (rw c.in-None.is at c.in_ok-cell.ensures),
  rw c.in-Some-2.is at c.in_ok-key-in-None.ensures,
)

pub returns-in-None-2 : goal.returns-in-None-2
returns-in-None-2 c =
    law-from c.args.names.now c.args.histories.now c.requires.fit (rw c.in-None.is at c.in_ok-cell.ensures)
    (rw c.in-None-2.is at c.in_ok-key-in-None.ensures)
