use Rattle.expr_plan.proofs.LawLemmas.{tells_first, stands_if_faultless, are_known}
use Rattle.expr_plan.proofs.planning.first_fault_is_told.Goals as goal

pub returns-clause-first : goal.returns-clause-first
returns-clause-first c = tells_first

pub returns-clause-faultless : goal.returns-clause-faultless
returns-clause-faultless c = stands_if_faultless

pub returns-clause-known : goal.returns-clause-known
returns-clause-known c = are_known
