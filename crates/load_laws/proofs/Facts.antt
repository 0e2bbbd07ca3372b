-- What is known of a shard of the source of a load.
use Rattle.std.specs.Prelude.{ℕ, ◌<◌, ◌≤◌, ◌≡◌, Contains, Some}
use Rattle.std.specs.Fmt.{decimal}
use Rattle.tuple_values.specs.Document.{Doc}
use Rattle.tuple_values.specs.Keys.{shard_of}
use Rattle.shard_versions.specs.Documents.{id_of, with_version}
use Rattle.shard_versions.specs.Histories.{History, Slot, current, slots}
use Rattle.load_rules.specs.Documents.{load_document, revision_of}

-- a write of the shard: a document of the load that routes there, in one of its revisions
pub record IsLoadSlot (n shard : ℕ) (s : Slot) : Type 0 where
  pub number : ℕ
  pub within : number < n
  pub revision : ℕ
  pub few : revision ≤ revision_of number
  pub routed : shard_of 4 (decimal number) ≡ shard
  pub id : s.id ≡ decimal number
  pub left : s.left ≡ Some (load_document number revision)

-- a current document of the shard: one of the load that routes there, in its last revision
pub record IsLoadCurrent (n shard : ℕ) (p : ℕ × Doc) : Type 0 where
  pub number : ℕ
  pub within : number < n
  pub routed : shard_of 4 (decimal number) ≡ shard
  pub is : p.1 ≡ with_version p.0 (load_document number (revision_of number))

-- a shard of the source, up to which the topic's checkpoint is this one: its writes are of the
-- load,
-- each document of the load that routes there is current in its last revision, no later write is
-- of its
-- id, and the checkpoint has reached it
pub record IsSource (n shard checkpoint : ℕ) (h : History) : Type 0 where
  pub written : (s : Slot) → Contains (slots h) s → IsLoadSlot n shard s
  pub last : (p : ℕ × Doc) → Contains (current h) p → IsLoadCurrent n shard p
  pub there : (number : ℕ) → number < n → shard_of 4 (decimal number) ≡ shard
      → (version : ℕ) × Contains (current h)
      (version, with_version version (load_document number (revision_of number)))
  pub greatest : (p : ℕ × Doc) → Contains (current h) p → (s : Slot) → Contains (slots h) s
      → s.id ≡ id_of p.1 → s.version ≤ p.0
  pub reached : (p : ℕ × Doc) → Contains (current h) p → p.0 ≤ checkpoint
