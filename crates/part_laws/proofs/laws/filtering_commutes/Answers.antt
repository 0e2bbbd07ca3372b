use Rattle.part_laws.proofs.LawLemmas.{part_commutes}
use Rattle.part_laws.proofs.laws.filtering_commutes.Goals as goal

pub returns : goal.returns
returns c = λ t keys well is docs index parts. part_commutes docs index parts t well keys is
