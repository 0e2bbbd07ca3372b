use Rattle.expr_check.proofs.FieldLemmas.{within_of}
use Rattle.expr_check.proofs.checking.fields_hold.Goals as goal

pub returns : goal.returns
returns c = λ t docs. within_of docs t
