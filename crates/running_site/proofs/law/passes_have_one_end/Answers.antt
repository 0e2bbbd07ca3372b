use Rattle.running_site.proofs.EndLemmas.{one-end}
use Rattle.running_site.proofs.law.passes_have_one_end.Goals as goal

pub returns : goal.returns
returns g c = one-end g.row.D.Denot
