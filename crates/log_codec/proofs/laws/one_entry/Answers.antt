use Rattle.log_codec.proofs.EntryLemmas.{entry-one}
use Rattle.log_codec.proofs.laws.one_entry.Goals as goal

pub returns : goal.returns
returns c = entry-one
