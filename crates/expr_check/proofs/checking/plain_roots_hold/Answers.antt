use Rattle.tuple_values.specs.Collections.{is_known}
use Rattle.expr_check.specs.Places.{at_root}
use Rattle.expr_check.proofs.FaultLemmas.{fault_where-plain}
use Rattle.expr_check.proofs.checking.plain_roots_hold.Goals as goal

pub returns : goal.returns
returns c = λ names t e. fault_where-plain at_root (λ name. is_known name names) t e
