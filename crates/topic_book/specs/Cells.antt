-- The cells: one for each shard of each collection, in the order of names and then of shards, and
-- last the book (own).
use Rattle.std.specs.Prelude.{ℕ, ◌+◌, ◌-◌, nat_lt, List, [], ◌∷◌, Option, Some, None, bytes_eq, if◌then◌else◌}
use Rattle.tuple_values.specs.Document.{ByteList}
use Rattle.tuple_values.specs.declared.names.NameShards.{NameShards}

-- how many cells there are but for the book's, which has this number
unfoldable pub cells_in : List NameShards → ℕ
cells_in [] = 0
cells_in (n ∷ names) = n.shards + cells_in names

-- the cell of a collection's shard
unfoldable pub cell_of : List NameShards → ByteList → ℕ → ℕ
cell_of [] collection shard = shard
cell_of (n ∷ names) collection shard =
    if bytes_eq n.name collection then shard else n.shards + cell_of names collection shard

-- where a cell is: this shard of a collection that has so many
pub record Place : Type 0 where
  pub collection : ByteList
  pub shard : ℕ
  pub shards : ℕ

-- the place that is this shard of the collection
abbrev pub place_in : NameShards → ℕ → Place
place_in n shard = record { collection = n.name; shard = shard; shards = n.shards }

-- where the cell is, unless it is the book's or there is none
unfoldable pub place_of : List NameShards → ℕ → Option Place
place_of [] cell = None
place_of (n ∷ names) cell =
    if nat_lt cell n.shards
    then Some (place_in n cell)
    else place_of names (cell - n.shards)
