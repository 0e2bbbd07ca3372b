-- The slot that is found has the place, and where none is found there is none.
use Rattle.std.proofs.Common.{sym}
use Rattle.disk_edge.proofs.PlacesLemmas.{place-found, place-none}
use Rattle.disk_edge.proofs.named.Named.place.Goals as goal

pub returns-in-Some : goal.returns-in-Some
returns-in-Some g c =
    let at = rw (← c.self.view_is) at c.in-Some.ensures in
    let found = place-found c.self.inside.slots.items c.args.name.now c.in-Some.at c.index.result.now (sym at) c.index.ensures in
    sym (rw c.self.view_is at found)

pub returns-in-None : goal.returns-in-None
returns-in-None g c = sym (place-none c.args.self.now c.args.name.now (sym c.in-None.ensures))
