-- The slots that a shard keeps of its writes, and the places of the current ones among them (own).
use Rattle.std.specs.Prelude.{ℕ, ◌+◌, ◌≡◌, true, false, not, ◌&&◌, List, [], ◌∷◌, ◌++◌, map, None, is_some, unwrap_or, option_map, slice_index_or, if◌then◌else◌}
use Rattle.tuple_values.specs.Document.{Doc}
use Rattle.shard_segments.specs.declared.slot.Slot as segments
use Rattle.shard_versions.specs.Documents.{with_version}
use Rattle.shard_versions.specs.Histories.{History, Slot, committed, writes_id}

-- a write as it is kept: its version, and its document with the version put in
abbrev pub kept_slot : Slot → segments.Slot
kept_slot s = record { version = s.version; document = option_map (with_version s.version) s.left }

-- the places of the writes whose documents no later one replaces or deletes, from a place on
unfoldable pub latest_places : ℕ → List Slot → List ℕ
latest_places at [] = []
latest_places at (s ∷ ss) =
    (if is_some s.left && not (writes_id s.id ss) then at ∷ [] else [])
    ++ latest_places (at + 1) ss

-- each of the writes leaves a document that no later one replaces or deletes
abbrev pub AreLatest : List Slot → Type 0
AreLatest [] = Unit {0}
AreLatest (s ∷ ss) =
    (is_some s.left ≡ true) × (writes_id s.id ss ≡ false) × AreLatest ss

-- the writes before the last Mark as they are kept
unfoldable pub stored : History → List segments.Slot
stored h = map kept_slot (committed h)

-- the places of the current documents among them
unfoldable pub places_of : History → List ℕ
places_of h = latest_places 0 (committed h)

-- no write
abbrev pub no_slot : segments.Slot
no_slot = record { version = 0; document = None }

-- the version and the document that the slot at a place holds
abbrev pub pair_at : List segments.Slot → ℕ → ℕ × Doc
pair_at slots at = (
  (slice_index_or slots at no_slot).version,
  unwrap_or (slice_index_or slots at no_slot).document [],
)

-- the version of the last of these slots, and `version` where there is none
abbrev pub last_stored : ℕ → List segments.Slot → ℕ
last_stored version [] = version
last_stored version (s ∷ ss) = last_stored s.version ss
