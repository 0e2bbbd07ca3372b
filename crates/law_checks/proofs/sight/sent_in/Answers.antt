use Rattle.law_checks.proofs.SentLemmas.{told-none}
use Rattle.law_checks.proofs.sight.sent_in.Goals as goal

pub loop-entry-init : goal.loop-entry-init
loop-entry-init c = told-none c.none-sent.result c.none-sent.ensures
