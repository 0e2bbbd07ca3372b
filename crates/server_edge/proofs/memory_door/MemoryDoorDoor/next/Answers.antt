use Rattle.std.proofs.Common.{◌≡◌, ◌∷◌, map, ap, refl}
use Rattle.server_edge.specs.Memory.{ends_of}
use Rattle.server_edge.proofs.memory_door.MemoryDoorDoor.next.Goals as goal

pub returns-in-Some-clause-gives : goal.returns-in-Some-clause-gives
returns-in-Some-clause-gives g c =
    let items : c.self.inside.waiting.items ≡ c.in-Some.field-0 ∷ c.pop_front.new.self.items =
    rw c.in-Some.is at c.pop_front.ensures.items in
    rw (← c.self.view_is) (map ends_of c.pop_front.new.self.items, ap (map ends_of) items, refl)
