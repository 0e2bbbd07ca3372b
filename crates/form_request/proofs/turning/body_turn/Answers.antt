use Rattle.form_request.proofs.TurnLemmas.{turned_asks, turned_lacks, turned_closes, turned_goes_on}
use Rattle.form_request.proofs.turning.body_turn.Goals as goal

pub returns-in-Asks : goal.returns-in-Asks
returns-in-Asks c = turned_asks _ _ (rw c.in-Asks.is at c.requires)

pub returns-in-Lacks : goal.returns-in-Lacks
returns-in-Lacks c = let is = rw c.in-Lacks.is at c.requires in turned_lacks _ _ is.0 is.1

pub returns-in-Has : goal.returns-in-Has
returns-in-Has c =
    let is = rw c.in-Has.is at c.requires in turned_closes _ _ is.0 is.1 _ is.2 c.if-plan.true

pub returns : goal.returns
returns c =
    let is = rw c.in-Has.is at c.requires in turned_goes_on _ _ is.0 is.1 _ is.2 c.if-plan.false
