-- The members of the kernels' law at reduce (own).
use Rattle.std.specs.Prelude.{ℕ, List, Bool}
use Rattle.tuple_values.specs.Document.{Doc}
use Rattle.kernel_laws.specs.Rests.{Rests}
use Rattle.group_kernels.specs.GroupState as group_state
use Rattle.group_kernels.specs.declared.reduce.ReduceKernel.{ReduceKernel}

-- whether its input has ended, as its groups tell it
abbrev pub ended : ReduceKernel → List Bool
ended k = group_state.ended k.groups

-- it holds no tuple
abbrev pub waits : ReduceKernel → ℕ → Type 0
waits k i = group_state.waits k.groups i

-- one input, and no group goes on where it has ended
abbrev pub ready : ReduceKernel → Rests → Type 0
ready k rests = group_state.ready k.groups rests

-- what its groups still give
abbrev pub out : ReduceKernel → Rests → List Doc
out k rests = group_state.out k.groups rests

-- nothing is held, and the input has ended
abbrev pub over : ReduceKernel → Type 0
over k = group_state.over k.groups

-- memory was wanting
abbrev pub failed : ReduceKernel → Bool
failed k = group_state.failed k.groups
