-- What a shard keeps of each entry beside the slots of its writes (own).
use Rattle.std.specs.Prelude.{ℕ, ◌+◌, ◌≡◌, List, [], ◌∷◌, map, unwrap_or, option_to_list, slice_index_or, refl}
use Rattle.std.specs.Coded.{Coded, code_by, coded×, coded_ℕ, coded_list}
use Rattle.tuple_values.specs.Document.{Doc, without}
use Rattle.shard_segments.specs.declared.slot.Slot as segments
use Rattle.shard_versions.specs.Documents.{version_name}
use Rattle.shard_versions.specs.Histories.{History, slot_of, slots, version_after}
use Rattle.shard_versions.specs.Stored.{kept_slot, no_slot}
use Rattle.shard_versions.specs.declared.entry.Kind.{Kind}
use Rattle.shard_versions.specs.declared.entry.Kind.TheVariants.{Put, Del, Sent, Mark}
use Rattle.shard_versions.specs.declared.entry.Entry.{Entry}
use Rattle.shard_versions.specs.declared.log.Act.{Act}
use Rattle.shard_versions.specs.declared.log.Act.TheVariants.{Puts, Deletes, Delivers, Marks}
use Rattle.shard_versions.specs.declared.log.Note.{Note}
use Rattle.shard_versions.specs.declared.log.Made.{Made}

-- the document of the slot at a place as it was written, without its version
abbrev pub bare_at : List segments.Slot → ℕ → Doc
bare_at slots at = without version_name (unwrap_or (slice_index_or slots at no_slot).document [])

-- what an entry does whose slot has this place
abbrev pub kind_in : List segments.Slot → ℕ → Act → Kind
kind_in slots at Puts = Put (bare_at slots at)
kind_in slots at (Deletes id) = Del id.value
kind_in slots at (Delivers origin) =
    Sent origin.value.src origin.value.version (bare_at slots at)
kind_in slots at Marks = Mark

-- what an entry does with an empty document
abbrev pub bare_kind : Kind → Kind
bare_kind (Put doc) = Put []
bare_kind (Del id) = Del id
bare_kind (Sent src version doc) = Sent src version []
bare_kind Mark = Mark

-- the same of what is kept of it
abbrev pub act_kind : Act → Kind
act_kind Puts = Put []
act_kind (Deletes id) = Del id.value
act_kind (Delivers origin) = Sent origin.value.src origin.value.version []
act_kind Marks = Mark

-- the entry of a note
abbrev pub entry_in : List segments.Slot → Note → Entry
entry_in slots n = record { by = n.by; kind = kind_in slots n.at n.act }

-- the entries of notes
abbrev pub entries_in : List segments.Slot → List Note → List Entry
entries_in slots notes = map (entry_in slots) notes

-- how many slots an entry has
abbrev pub width : Kind → ℕ
width (Put doc) = 1
width (Del id) = 1
width (Sent src version doc) = 1
width Mark = 0

-- for each entry how many writes stand before it, where these stand before the first
unfoldable pub widths_before : ℕ → History → List ℕ
widths_before before [] = []
widths_before before (e ∷ h) = before ∷ widths_before (before + width e.kind) h

-- the entry that is made ready
abbrev pub made_entry : Made → Entry
made_entry m = record { by = m.by; kind = kind_in (option_to_list m.slot) 0 m.act }

-- its slot is that of a write whose version follows this one
abbrev pub IsMade : ℕ → Made → Type 0
IsMade last m =
    option_to_list m.slot
    ≡ map kept_slot (slot_of (version_after last (made_entry m).kind) (made_entry m).kind)

-- the same of one after the other
abbrev pub AreMade : ℕ → List Made → Type 0
AreMade last [] = Unit {0}
AreMade last (m ∷ ms) = IsMade last m × AreMade (version_after last (made_entry m).kind) ms

-- a log is seen as its entries, the slots of their writes, and for how many more there is room
pub record Logged : Type 0 where
  pub entries : List Entry
  pub slots : List segments.Slot
  pub room : ℕ

-- what is seen of a log is stored as its parts
abbrev pub logged_code : Coded Entry → Coded segments.Slot → Coded Logged
logged_code entry_code slot_code =
    code_by (List Entry × (List segments.Slot × ℕ))
    (coded× (coded_list entry_code) (coded× (coded_list slot_code) coded_ℕ))
    (λ l. (l.entries, (l.slots, l.room)))
    (λ p. record { entries = p.0; slots = p.1.0; room = p.1.1 }) (λ _. refl)
