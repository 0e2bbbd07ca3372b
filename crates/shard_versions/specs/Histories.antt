-- A shard's history: its writes in their versions, its top, and its current documents (own).
use Rattle.std.specs.Prelude.{ℕ, ◌+◌, ◌<◌, ◌==◌, Bool, true, false, not, ◌&&◌, ◌||◌, List, [], ◌∷◌, ◌++◌, Option, Some, None, bytes_eq, if◌then◌else◌}
use Rattle.tuple_values.specs.Document.{ByteList, Doc}
use Rattle.shard_versions.specs.Documents.{id_of, with_version}
use Rattle.shard_versions.specs.declared.entry.Kind.{Kind}
use Rattle.shard_versions.specs.declared.entry.Kind.TheVariants.{Put, Del, Sent, Mark}
use Rattle.shard_versions.specs.declared.entry.Entry.{Entry}

-- a history is the list of its entries
abbrev pub History : Type 0
History = List Entry

-- a write in its version, with the document that it left at its id
pub record Slot : Type 0 where
  pub version : ℕ
  pub id : ByteList
  pub left : Option Doc

-- the version of the last write after this one, where `last` was it before
abbrev pub version_after : ℕ → Kind → ℕ
version_after last (Put doc) = last + 1
version_after last (Del id) = last + 1
version_after last (Sent src version doc) = last + 1
version_after last Mark = last

-- the slot of a write in this version
abbrev pub slot_of : ℕ → Kind → List Slot
slot_of version (Put doc) = record { version = version; id = id_of doc; left = Some doc } ∷ []
slot_of version (Del id) = record { version = version; id = id; left = None } ∷ []
slot_of version (Sent src sent doc) =
    record { version = version; id = id_of doc; left = Some doc } ∷ []
slot_of version Mark = []

-- the writes of these entries in their versions, where `last` was the version before them
unfoldable pub slots_after : ℕ → History → List Slot
slots_after last [] = []
slots_after last (e ∷ h) =
    slot_of (version_after last e.kind) e.kind ++ slots_after (version_after last e.kind) h

-- the writes of a history in their versions: the k-th has version k
unfoldable pub slots : History → List Slot
slots h = slots_after 0 h

-- the write of this version
abbrev pub write_at : ℕ → List Slot → Option Slot
write_at version [] = None
write_at version (s ∷ ss) = if s.version == version then Some s else write_at version ss

-- the version of the last of these writes, and `version` where there is none
abbrev pub last_version : ℕ → List Slot → ℕ
last_version version [] = version
last_version version (s ∷ ss) = last_version s.version ss

-- the versions of these writes rise strictly, from above `last`
abbrev pub Ascend : ℕ → List Slot → Type 0
Ascend last [] = Unit {0}
Ascend last (s ∷ ss) = (last < s.version) × Ascend s.version ss

-- the versions of the history's writes rise strictly
unfoldable pub IsVersioned : History → Type 0
IsVersioned h = Ascend 0 (slots h)

-- whether the entry is a Mark
abbrev pub is_mark : Kind → Bool
is_mark (Put doc) = false
is_mark (Del id) = false
is_mark (Sent src version doc) = false
is_mark Mark = true

-- whether there is a Mark among the entries
abbrev pub has_mark : History → Bool
has_mark [] = false
has_mark (e ∷ h) = is_mark e.kind || has_mark h

-- the history up to its last Mark
unfoldable pub settled : History → History
settled [] = []
settled (e ∷ h) = if has_mark (e ∷ h) then e ∷ settled h else []

-- whether there is a write that no Mark follows
unfoldable pub is_pending : History → Bool
is_pending [] = false
is_pending (e ∷ h) = not (is_mark e.kind) && not (has_mark h) || is_pending h

-- the writes before the last Mark, in their versions
unfoldable pub committed : History → List Slot
committed h = slots (settled h)

-- the version of the last write before the last Mark, and 0 where there is none
unfoldable pub top : History → ℕ
top h = last_version 0 (committed h)

-- whether one of the writes is of this id
abbrev pub writes_id : ByteList → List Slot → Bool
writes_id id [] = false
writes_id id (s ∷ ss) = bytes_eq id s.id || writes_id id ss

-- what is read of a write: its document in its version, unless a later write is of its id
abbrev pub kept : Slot → Option Doc → List Slot → List (ℕ × Doc)
kept s None later = []
kept s (Some doc) later =
    if writes_id s.id later then [] else (s.version, with_version s.version doc) ∷ []

-- the documents that no later one of these writes replaces or deletes, each with its version
unfoldable pub latest : List Slot → List (ℕ × Doc)
latest [] = []
latest (s ∷ ss) = kept s s.left ss ++ latest ss

-- the current documents, each with its version, by version
unfoldable pub current : History → List (ℕ × Doc)
current h = latest (committed h)
