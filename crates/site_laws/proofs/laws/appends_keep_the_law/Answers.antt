use Rattle.site_laws.proofs.KeepLemmas.{write-keeps, deliver-keeps, entry-keeps}
use Rattle.site_laws.proofs.laws.appends_keep_the_law.Goals as goal

pub returns : goal.returns
returns c = record { write = write-keeps; deliver = deliver-keeps; append_entry = entry-keeps }
