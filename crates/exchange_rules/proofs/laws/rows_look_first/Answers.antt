use Rattle.exchange_rules.proofs.RowLemmas.{rows_first}
use Rattle.exchange_rules.proofs.laws.rows_look_first.Goals as goal

pub returns : goal.returns
returns c = rows_first
