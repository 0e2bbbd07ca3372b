use Rattle.site_server.proofs.StandLemmas.{served_found}
use Rattle.site_server.proofs.laws.served_connections_are_found.Goals as goal

pub returns : goal.returns
returns g c = λ clock. served_found _ _ _ _
