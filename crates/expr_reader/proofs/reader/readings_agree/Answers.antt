use Rattle.expr_reader.proofs.AgreementLemmas.{read_of-agrees}
use Rattle.expr_reader.proofs.reader.readings_agree.Goals as goal

pub returns : goal.returns
returns c = read_of-agrees
