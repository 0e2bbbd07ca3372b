use Rattle.root_runs.proofs.RootLemmas.{roots_first}
use Rattle.root_runs.proofs.laws.roots_look_first.Goals as goal

pub returns : goal.returns
returns c = roots_first
