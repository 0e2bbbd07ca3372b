use Rattle.json_text.proofs.LawsLemmas.{ascend_put, document_has}
use Rattle.json_text.proofs.UpdatesLemmas.{first_fault}
use Rattle.json_text.proofs.laws.bodies_are_read_in_order.Goals as goal

pub returns-clause-order : goal.returns-clause-order
returns-clause-order c = ascend_put

pub returns-clause-members : goal.returns-clause-members
returns-clause-members c = document_has

pub returns-clause-first : goal.returns-clause-first
returns-clause-first c = first_fault
