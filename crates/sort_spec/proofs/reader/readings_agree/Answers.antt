use Rattle.sort_spec.specs.Texts.{IsSort, IsOn, IsNames}
use Rattle.sort_spec.specs.Reading.{sort_of, on_of, names_of}
use Rattle.sort_spec.proofs.AnswerLemmas.{sort_right, on_right, names_right}
use Rattle.sort_spec.proofs.AgreementLemmas.{agrees}
use Rattle.sort_spec.proofs.reader.readings_agree.Goals as goal

pub returns : goal.returns
returns c = record {
  sorts = agrees IsSort sort_of sort_right;
  pairs = agrees IsOn on_of on_right;
  names = agrees IsNames names_of names_right;
}
