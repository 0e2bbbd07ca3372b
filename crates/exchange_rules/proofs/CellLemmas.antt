-- Where the cells of a collection stand.
use Rattle.std.proofs.Common.{◌≡◌, ℕ, ◌+◌, ◌<◌, Bool, true, false, List, [], ◌∷◌, arith, if◌then◌else◌}
use Rattle.std.specs.Prelude.{bytes_eq}
use Rattle.tuple_values.specs.Document.{ByteList}
use Rattle.tuple_values.specs.declared.names.NameShards.{NameShards}
use Rattle.topic_book.specs.Cells.{cells_in, cell_of}
use Rattle.topic_book.specs.Fitness.{shards_of}

-- a choice between cells, moved by a shard
shift : (b : Bool) (n k x y : ℕ) → x ≡ y + k
    → (if b then k else n + x) ≡ (if b then 0 else n + y) + k
shift true n k x y e = omega arith
shift false n k x y e = omega arith

-- the shards of a collection stand one behind the other
pub cell_of-from : (names : List NameShards) (c : ByteList) (s : ℕ)
    → cell_of names c s ≡ cell_of names c 0 + s
unfolding cell_of
cell_of-from [] c s = omega arith
cell_of-from (n ∷ names) c s =
    shift (bytes_eq n.name c) n.shards s (cell_of names c s) (cell_of names c 0)
    (cell_of-from names c s)

-- a choice between cells, of which each is one
within : (b : Bool) (n s x cells shards : ℕ) → s < (if b then n else shards)
    → (s < shards → x < cells) → (if b then s else n + x) < n + cells
within true n s x cells shards lt h = omega arith
within false n s x cells shards lt h = let g = h lt in omega arith

-- and are among the cells
pub cell_of-within : (names : List NameShards) (c : ByteList) (s : ℕ) → s < shards_of names c
    → cell_of names c s < cells_in names
unfolding cell_of cells_in shards_of
cell_of-within [] c s lt = absurd (omega arith)
cell_of-within (n ∷ names) c s lt =
    within (bytes_eq n.name c) n.shards s (cell_of names c s) (cells_in names) (shards_of names c)
    lt (cell_of-within names c s)
