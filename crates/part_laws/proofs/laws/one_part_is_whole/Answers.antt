use Rattle.part_laws.proofs.LawLemmas.{whole_list}
use Rattle.part_laws.proofs.laws.one_part_is_whole.Goals as goal

pub returns : goal.returns
returns c = λ t docs. whole_list docs t
