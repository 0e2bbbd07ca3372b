use Rattle.part_laws.proofs.SplitLemmas.{all_split}
use Rattle.part_laws.proofs.laws.work_may_be_split.Goals as goal

pub returns : goal.returns
returns c = all_split
