-- A slot is added for a name that no slot had.
use Rattle.disk_edge.proofs.PlacesLemmas.{puts-push}
use Rattle.disk_edge.proofs.named.Named.add.Goals as goal

pub returns-clause-ok : goal.returns-clause-ok
returns-clause-ok g c =
    rw c.in_ok-push.ensures.items (rw (c.self.view_is) (puts-push c.args.self.now c.args.name c.args.place c.requires))
