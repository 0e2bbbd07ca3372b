use Rattle.tuple_values.specs.Collections.{is_known}
use Rattle.expr_check.specs.Places.{at_root}
use Rattle.expr_check.proofs.FaultLemmas.{fault_where-own}
use Rattle.expr_check.proofs.LawLemmas.{holds_of}
use Rattle.expr_check.proofs.checking.orders_hold.Goals as goal

pub returns-clause-sorted : goal.returns-clause-sorted
returns-clause-sorted c = λ roots names t p k e docs.
    (holds_of docs t p k.0
    (fault_where-own roots at_root (λ name. is_known name names) t e)).0

pub returns-clause-ordered : goal.returns-clause-ordered
returns-clause-ordered c = λ roots names t p k e docs.
    (holds_of docs t p k.0
    (fault_where-own roots at_root (λ name. is_known name names) t e)).1
