use Rattle.once_core.proofs.DeliveredLemmas.{law_delivers}
use Rattle.once_core.proofs.law.delivery_holds.Goals as goal

pub returns : goal.returns
returns c = law_delivers
