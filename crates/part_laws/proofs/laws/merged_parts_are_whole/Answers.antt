use Rattle.part_laws.proofs.MergeLemmas.{merged_whole}
use Rattle.part_laws.proofs.laws.merged_parts_are_whole.Goals as goal

pub returns : goal.returns
returns c = λ by keys parts docs some held ascends. merged_whole by keys parts some held docs ascends
