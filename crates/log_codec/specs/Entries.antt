-- How the entries of a shard's history are spelled (own).
use Rattle.std.specs.Prelude.{ℕ, ◌≡◌, Bool, false, [], ◌∷◌, ◌++◌}
use Rattle.tuple_values.specs.Document.{ByteList}
use Rattle.shard_versions.specs.Documents.{has_group}
use Rattle.shard_versions.specs.declared.entry.Kind.{Kind}
use Rattle.shard_versions.specs.declared.entry.Kind.TheVariants.{Put, Del, Sent, Mark}
use Rattle.shard_versions.specs.declared.entry.Entry.{Entry}
use Rattle.log_codec.specs.Codes.{spelled_number, spelled_text, IsNumber, IsText}
use Rattle.log_codec.specs.Documents.{spelled_document, IsSpellableDocument}

-- whether the document of what an entry does holds a group
abbrev pub holds_group : Kind → Bool
holds_group (Put document) = has_group document
holds_group (Del id) = false
holds_group (Sent src version document) = has_group document
holds_group Mark = false

-- the entry's document holds no group
abbrev pub HasNoGroup : Entry → Type 0
HasNoGroup entry = holds_group entry.kind ≡ false

-- the byte that tells what an entry does
abbrev pub kind_byte : Kind → ℕ
kind_byte (Put document) = 1
kind_byte (Del id) = 2
kind_byte (Sent src version document) = 3
kind_byte Mark = 4

-- the source of a delivery, and the version that it had there
abbrev pub spelled_origin : ByteList × ℕ → ByteList
spelled_origin origin = spelled_text origin.0 ++ spelled_number origin.1

-- a text and a number
abbrev pub IsOrigin : ByteList × ℕ → Type 0
IsOrigin origin = IsText origin.0 × IsNumber origin.1

-- what follows the writer's number
abbrev pub spelled_kind : Kind → ByteList
spelled_kind (Put document) = spelled_document document
spelled_kind (Del id) = spelled_text id
spelled_kind (Sent src version document) =
    spelled_origin (src, version) ++ spelled_document document
spelled_kind Mark = []

-- each part has a spelling
abbrev pub IsSpellableKind : Kind → Type 0
IsSpellableKind (Put document) = IsSpellableDocument document
IsSpellableKind (Del id) = IsText id
IsSpellableKind (Sent src version document) =
    IsOrigin (src, version) × IsSpellableDocument document
IsSpellableKind Mark = Unit {0}

-- its byte, the number of its writer, and what it does
abbrev pub spelled_entry : Entry → ByteList
spelled_entry entry =
    kind_byte entry.kind ∷ (spelled_number entry.by ++ spelled_kind entry.kind)

-- the writer's number and each part have a spelling
pub record IsSpellableEntry (entry : Entry) : Type 0 where
  pub by : IsNumber entry.by
  pub kind : IsSpellableKind entry.kind

-- what an entry of this byte does, where it has a spelling
abbrev pub IsKindOf : ℕ → Kind → Type 0
IsKindOf byte kind = (kind_byte kind ≡ byte) × IsSpellableKind kind
