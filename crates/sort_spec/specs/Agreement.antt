-- When a reading of texts, as a function of their bytes, is the one by the grammar (own).
use Rattle.std.specs.Prelude.{◌≡◌, ◌↔◌, ℕ}
use Rattle.tuple_values.specs.Document.{ByteList}
use Rattle.sort_spec.specs.Grammar.{IsReadable, IsPlace}
use Rattle.sort_spec.specs.Reading.{Reading, said, stuck}

-- the bytes say nothing, and this is the place of their fault
pub record IsFault {V : Type 0} (Says : ByteList → V → Type 0) (bytes : ByteList)
    (at : ℕ) : Type 0 where
  pub unreadable : ¬ (IsReadable Says bytes)
  pub place : IsPlace Says bytes at

-- for all bytes the reading is a value exactly where they say it by the grammar, and a place
-- exactly where they say nothing and it is that of their fault
pub record Agree {V : Type 0} (Says : ByteList → V → Type 0)
    (reading : ByteList → Reading V) : Type 0 where
  pub values : (bytes : ByteList) (value : V) → (reading bytes ≡ said value) ↔ Says bytes value
  pub faults : (bytes : ByteList) (at : ℕ) → (reading bytes ≡ stuck at) ↔ IsFault Says bytes at
