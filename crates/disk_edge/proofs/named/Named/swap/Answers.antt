-- The slot that is found gets the place, and where none is found nothing changes.
use Rattle.std.proofs.Common.{◌∙◌, ap, refl, Some, sym}
use Rattle.disk_edge.proofs.PlacesLemmas.{place-found, place-none, puts-set}
use Rattle.disk_edge.proofs.named.Named.swap.Goals as goal

pub returns-in-Some : goal.returns-in-Some
returns-in-Some g c =
    let at = rw (← c.self.view_is) at c.in-Some.ensures in
    let slot = c.index_mut.result.now in
    rw (← c.self.view_is) (
      place-found c.self.inside.slots.items c.args.name.now c.in-Some.at slot (sym at) c.index_mut.ensures.value ∙ ap (λ p. Some p) (sym c.replace.ensures.value),
      rw c.replace.ensures.after (puts-set c.self.inside.slots.items c.args.name.now c.in-Some.at slot (sym at) c.index_mut.ensures.value c.args.place),
    )

pub returns-in-None : goal.returns-in-None
returns-in-None g c = (place-none c.args.self.now c.args.name.now (sym c.in-None.ensures), refl)
