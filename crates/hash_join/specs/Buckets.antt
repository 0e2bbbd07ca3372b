-- What a table holds: for each key its right documents in order, its bucket (own).
use Rattle.std.specs.Prelude.{◌≡◌, ℕ, [], ◌∷◌, ◌++◌, List, slice_get, bytes_eq, if◌then◌else◌}
use Rattle.std.specs.Option.{option_map_or}
use Rattle.indexmap.specs.IndexMap.{values, get_by}
use Rattle.tuple_values.specs.Document.{ByteList, Doc}
use Rattle.hash_join.specs.declared.table.Table.{Table}

-- those of a key
abbrev pub bucket_of : Table → ByteList → List Doc
bucket_of table key =
    option_map_or (λ bucket. bucket.items) (get_by (λ k. bytes_eq key k.items) table.buckets) []

-- those of the bucket with a number, counted from 0 in the order in which the keys came
abbrev pub bucket_at : Table → ℕ → List Doc
bucket_at table i = option_map_or (λ bucket. bucket.items) (slice_get (values table.buckets) i) []

-- a document was added behind those of a key, and no other bucket changed
abbrev pub AddsUnder : ByteList → Doc → Table → Table → Type 0
AddsUnder key doc old new =
    (other : ByteList) → bucket_of new other
    ≡ (if bytes_eq key other then bucket_of old other ++ doc ∷ [] else bucket_of old other)
