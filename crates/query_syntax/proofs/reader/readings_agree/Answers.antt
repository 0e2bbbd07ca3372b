use Rattle.query_syntax.proofs.CompleteLemmas.{complete}
use Rattle.query_syntax.proofs.SoundLemmas.{sound}
use Rattle.query_syntax.proofs.AgreementLemmas.{read_of-agrees}
use Rattle.query_syntax.proofs.reader.readings_agree.Goals as goal

pub returns : goal.returns
returns c = record {
  clauses = λ bytes clauses. (sound bytes clauses, complete bytes clauses);
  reading = read_of-agrees;
}
