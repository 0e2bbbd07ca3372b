use Rattle.expr_text.proofs.AgreementLemmas.{told}
use Rattle.expr_text.proofs.laws.texts_agree.Goals as goal

pub returns : goal.returns
returns c = told c.readings_agree.ensures
