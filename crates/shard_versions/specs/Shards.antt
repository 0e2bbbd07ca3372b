-- What a shard's state and a snapshot of it are seen as (own).
use Rattle.std.specs.Prelude.{ℕ, ◌≡◌, ◌≤◌, List, length, refl}
use Rattle.std.specs.Coded.{Coded, code_by, coded×, coded_ℕ, coded_list}
use Rattle.tuple_values.specs.Codes.{doc_code}
use Rattle.tuple_values.specs.Document.{Doc}
use Rattle.shard_segments.specs.declared.slot.Slot as segments
use Rattle.shard_versions.specs.declared.entry.Entry.{Entry}

-- a shard's whole history, its limit in counted bytes, for how many entries it has room, and the
-- entries that it has made ready
pub record Shard : Type 0 where
  pub entries : List Entry
  pub limit : ℕ
  pub room : ℕ
  pub ready : List Entry

-- the shard can take the step without memory
unfoldable pub HasRoom : Shard → List Entry → Type 0
HasRoom shard step = (length step ≤ shard.room) × (shard.ready ≡ step)

-- a shard as it was read: its top, how many entries it had, its current documents by version, the
-- slots of its writes up to the top, and the places of the current ones among them
pub record Shown : Type 0 where
  pub top : ℕ
  pub upto : ℕ
  pub documents : List (ℕ × Doc)
  pub slots : List segments.Slot
  pub places : List ℕ

-- what is shown is stored as its parts
abbrev pub shown_code : Coded segments.Slot → Coded Shown
shown_code slot_code =
    code_by (ℕ × (ℕ × (List (ℕ × Doc) × (List segments.Slot × List ℕ))))
    (coded× coded_ℕ (coded× coded_ℕ (coded× (coded_list (coded× coded_ℕ doc_code))
    (coded× (coded_list slot_code) (coded_list coded_ℕ)))))
    (λ s. (s.top, (s.upto, (s.documents, (s.slots, s.places)))))
    (λ p. record {
      top = p.0;
      upto = p.1.0;
      documents = p.1.1.0;
      slots = p.1.1.1.0;
      places = p.1.1.1.1;
    }) (λ _. refl)
