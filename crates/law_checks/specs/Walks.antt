-- The current documents of a history, as a walk from its end finds them (own).
use Rattle.std.specs.Prelude.{ℕ, ◌≡◌, Bool, List, [], ◌∷◌, Option, Some, None, if◌then◌else◌}
use Rattle.tuple_values.specs.Document.{ByteList, Doc, is_named}
use Rattle.shard_versions.specs.Documents.{with_version}
use Rattle.shard_versions.specs.Histories.{History, slots, slots_after, last_version, writes_id, latest}
use Rattle.law_checks.specs.declared.walk.Shown.{Shown}
use Rattle.law_checks.specs.declared.walk.Walk.{Walk}

-- the document as it is read, with its version
abbrev pub read_of : Shown → ℕ × Doc
read_of s = (s.version, with_version s.version s.document.now)

-- these documents as they are read, the last first, before others
abbrev pub turned : List Shown → List (ℕ × Doc) → List (ℕ × Doc)
turned [] ps = ps
turned (s ∷ ss) ps = turned ss (read_of s ∷ ps)

-- what is read of a write in this version that left a document, where no later one is of its id
abbrev pub shown_with : Bool → Option Doc → ℕ → List (ℕ × Doc)
shown_with new None version = []
shown_with new (Some doc) version = if new then (version, with_version version doc) ∷ [] else []

-- a walk came by these last entries, before which these stand
pub record IsWalked (w : Walk) (before rest : History) : Type 0 where
  pub version : w.version ≡ last_version 0 (slots before)
  pub ids : (id : ByteList) → is_named id w.ids ≡ writes_id id (slots rest)
  pub shown : turned w.shown.items []
      ≡ latest (slots_after (last_version 0 (slots before)) rest)
