-- The history of a cell, and of a collection's shard (own).
use Rattle.std.specs.Prelude.{ℕ, List, [], get_or}
use Rattle.tuple_values.specs.Document.{ByteList}
use Rattle.tuple_values.specs.Keys.{shard_of}
use Rattle.tuple_values.specs.declared.names.NameShards.{NameShards}
use Rattle.shard_versions.specs.Histories.{History}
use Rattle.topic_book.specs.Fitness.{shards_of}
use Rattle.once_core.specs.declared.world.Histories.{Histories}
pub use Rattle.topic_book.specs.Cells.{Place, place_in}
unfoldable pub use Rattle.topic_book.specs.Cells.{cells_in, cell_of, place_of}

-- the history of a cell, and the empty one where it is none of a shard
abbrev pub history_at : Histories → ℕ → History
history_at hs cell = get_or hs.shards cell []

-- the history of the collection's shard
abbrev pub shard_history : List NameShards → Histories → ByteList → ℕ → History
shard_history names hs collection shard = history_at hs (cell_of names collection shard)

-- the history of the collection's shard to which the id routes
abbrev pub home_history : List NameShards → Histories → ByteList → ByteList → History
home_history names hs collection id =
    shard_history names hs collection (shard_of (shards_of names collection) id)
