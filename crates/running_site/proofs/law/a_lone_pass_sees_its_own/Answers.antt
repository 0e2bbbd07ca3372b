use Rattle.running_site.proofs.AloneLemmas.{alone-own}
use Rattle.running_site.proofs.law.a_lone_pass_sees_its_own.Goals as goal

pub returns : goal.returns
returns g c = alone-own g.row.D.Denot
