use Rattle.exchange_rules.proofs.AloneLemmas.{answers_alone}
use Rattle.exchange_rules.proofs.laws.alone_it_is_a_function.Goals as goal

pub returns : goal.returns
returns g c = λ old new course answer. answers_alone old new course answer
