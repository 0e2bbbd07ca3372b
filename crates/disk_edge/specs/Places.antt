-- What is kept by name, and how a folder's disks follow from it (own).
use Rattle.std.specs.Prelude.{ℕ, ◌≡◌, ◌≢◌, List, Option, Some, None, find, option_and_then}
use Rattle.std.specs.Option.{option_map}
use Rattle.std.specs.Str.{bytes_eq}
use Rattle.disk_edge.specs.declared.named.Place.{Place}
use Rattle.disk_edge.specs.declared.named.Place.TheVariants.{Held, Out}
use Rattle.disk_edge.specs.declared.named.Slot.{Slot}

-- the place of the disk of a name: that of the first slot with this name
abbrev pub place_of : {D : Type 0} → List (Slot D) → List ℕ → Option (Place D)
place_of slots name = option_map (λ slot. slot.place) (find (λ slot. bytes_eq slot.name name) slots)

-- the disk of this name has this place, and that of every other name has the place that it had
pub record Puts {D : Type 0} (old new : List (Slot D)) (name : List ℕ) (place : Place D) : Type 0
  where
    pub put : place_of new name ≡ Some place
    pub others : (other : List ℕ) → other ≢ name → place_of new other ≡ place_of old other

-- the disk at a place that is in the folder
abbrev pub held_at : {D : Type 0} → Place D → Option D
held_at (Held disk) = Some disk
held_at (Out at) = None

-- the count of faults at a place that is out of the folder
abbrev pub out_at : {D : Type 0} → Place D → Option ℕ
out_at (Held disk) = None
out_at (Out at) = Some at

-- the disk that is held under a name
abbrev pub held_of : {D : Type 0} → List (Slot D) → List ℕ → Option D
held_of slots name = option_and_then held_at (place_of slots name)

-- the count of faults at which the disk of a name went out
abbrev pub out_of : {D : Type 0} → List (Slot D) → List ℕ → Option ℕ
out_of slots name = option_and_then out_at (place_of slots name)
