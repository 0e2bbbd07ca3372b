-- The cells of a load's collections.
use Rattle.std.proofs.Common.{◌≡◌, ℕ, ◌+◌, refl}
use Rattle.topic_book.specs.Cells.{cell_of, cells_in}
use Rattle.topic_book.specs.Fitness.{shards_of}
use Rattle.exchange_rules.specs.Bindings.{book_cell}
use Rattle.exchange_rules.specs.Rows.{Layout}
use Rattle.load_rules.specs.Topic.{dest_name, load_names, src_name}
use Rattle.load_rules.specs.Worked.{dest_cell, src_cell}

-- those of the source's shards are the first
pub src-is : (shard : ℕ) → src_cell shard ≡ shard
unfolding cell_of
src-is shard = refl

-- those of the destination's are behind them
pub dest-is : (shard : ℕ) → dest_cell shard ≡ 4 + shard
unfolding cell_of
dest-is shard = refl

-- and the book's is behind those of all shards
pub book-is : book_cell load_names ≡ 9
unfolding cells_in
book-is = refl

-- the source has four shards
pub src-shards : shards_of load_names src_name ≡ 4
unfolding shards_of
src-shards = refl

-- so has the destination
pub dest-shards : shards_of load_names dest_name ≡ 4
unfolding shards_of
dest-shards = refl

-- the collections, with a limit on the counted bytes of a shard
abbrev pub load_layout : ℕ → Layout
load_layout limit = record { names = load_names; limit = limit }
