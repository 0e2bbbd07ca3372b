-- The law holds at the start, and each allowed event keeps it.
use Rattle.once_core.specs.Worlds.{nothing_yet}
use Rattle.once_core.proofs.KeepingLemmas.{law_nothing, law_run}
use Rattle.once_core.proofs.law.law_holds.Goals as goal

pub returns : goal.returns
returns c = λ names events allowed.
    law_run names events (nothing_yet names) (law_nothing names) allowed
