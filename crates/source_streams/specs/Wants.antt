-- What the code of a search keeps, before its sort and after it (own).
use Rattle.std.specs.Prelude.{ℕ, ◌≡◌, ◌+◌, ◌<◌, ◌≤◌, Bool, false, ◌&&◌, List, length, slice_index, Option, Some, None}
use Rattle.tuple_values.specs.Document.{ByteList, Doc}
use Rattle.query_syntax.specs.Matching.{matches}
use Rattle.query_syntax.specs.Tree.{ClauseTree}
use Rattle.shard_segments.specs.declared.slot.Slot.{Slot}
use Rattle.expr_types.specs.Sources.{cut_to}
use Rattle.source_streams.specs.Parts.{is_of_part}
use Rattle.source_streams.specs.declared.part.Part.{Part}

-- whether the query takes the document and its cut is of the part
abbrev pub is_wanted : List ClauseTree → (fl keys : List ByteList) → Part → Doc → Bool
is_wanted q fl keys part doc =
    matches q doc && is_of_part part.index part.of keys (cut_to fl doc)

-- the same of the document in a slot, where there is one
abbrev pub is_wanted_in : List ClauseTree → (fl keys : List ByteList) → Part → Option Doc → Bool
is_wanted_in q fl keys part None = false
is_wanted_in q fl keys part (Some doc) = is_wanted q fl keys part doc

abbrev pub is_wanted_slot : List ClauseTree → (fl keys : List ByteList) → Part → Slot → Bool
is_wanted_slot q fl keys part slot = is_wanted_in q fl keys part slot.document

-- the first of ascending numbers that is no less than `low` stands at this place, or none is there
pub record IsFirstFrom (numbers : List ℕ) (low at : ℕ) : Type 0 where
  pub within : at ≤ length numbers
  pub before : (k : ℕ) → k + 1 ≡ at → slice_index numbers k < low
  pub there : at < length numbers → low ≤ slice_index numbers at

-- the one part of all
abbrev pub whole : Part
whole = record { index = 0; of = 1 }

-- the part that is taken before the sort
abbrev pub early_part : Option ℕ → Part → Part
early_part None part = part
early_part (Some rows) part = whole

-- the part that is taken of the first rows
abbrev pub late_part : Option ℕ → Part → Part
late_part None part = whole
late_part (Some rows) part = part
