-- What is seen of a snapshot, and when its places are right (own).
use Rattle.std.specs.Prelude.{ℕ, ◌<◌, Bool, List, [], ◌∷◌, length, map, slice_index_or, IsSome}
use Rattle.std.specs.Prelude.{if◌then◌else◌}
use Rattle.std.specs.List.{AllByRecursion, range_with_len}
use Rattle.tuple_values.specs.Document.{Doc}
use Rattle.shard_segments.specs.declared.slot.Slot as segments
use Rattle.shard_versions.specs.Shards.{Shown}
use Rattle.shard_versions.specs.Stored.{no_slot, pair_at}
use Rattle.shard_versions.specs.declared.snapshot.Snapshot.TheInside.{Inside}

-- the places of the current ones among so many slots: each place, or those that are kept
abbrev pub places_among : Bool → ℕ → List ℕ → List ℕ
places_among all_current count places = if all_current then range_with_len 0 count else places

-- those of a snapshot
abbrev pub places_in : Inside → List ℕ
places_in s = places_among s.all_current (length s.chunks.slots) s.places.items

-- the top, how many entries there were, and the documents of the slots at the places
abbrev pub shown_in : Inside → Shown
shown_in s =
    record {
      top = s.reached;
      upto = s.seen;
      documents = map (pair_at s.chunks.slots) (places_in s);
      slots = s.chunks.slots;
      places = places_in s;
    }

-- each version is above those before it, and above `last`
abbrev pub VersionsRise : ℕ → List (ℕ × Doc) → Type 0
VersionsRise last [] = Unit {0}
VersionsRise last (d ∷ ds) = (last < d.0) × VersionsRise d.0 ds

-- each place is that of a slot with a document
abbrev pub AreHeld : List segments.Slot → List ℕ → Type 0
AreHeld slots places =
    AllByRecursion
    (λ p. (p < length slots) × IsSome (slice_index_or slots p no_slot).document) places

-- the places are right, and the versions of the documents there rise
pub record IsShown (s : Inside) : Type 0 where
  pub held : AreHeld s.chunks.slots (places_in s)
  pub rises : VersionsRise 0 (shown_in s).documents
