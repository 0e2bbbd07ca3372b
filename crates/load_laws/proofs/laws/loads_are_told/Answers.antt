use Rattle.load_laws.proofs.ToldLemmas.{told}
use Rattle.load_laws.proofs.laws.loads_are_told.Goals as goal

pub returns : goal.returns
returns c = told
