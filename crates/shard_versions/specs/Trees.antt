-- The trees by which a shard finds the last write of an id, and the last delivery of an id from a
-- source: a node for each, below the first one of its tag, where its bits lead (own).
use Rattle.std.specs.Prelude.{ℕ, zero, suc, ◌+◌, ◌-◌, ◌*◌, ◌/◌, ◌%◌, ◌^◌, ◌≡◌, ◌<◌, ◌≤◌, nat_lt, nat_eq, min, Bool, true, false, List, [], ◌∷◌, length, slice_set, slice_index_or, unwrap_or, bit_xor, vec_len, vec_capacity, if◌then◌else◌}
use Rattle.std.specs.HashMap.{get, spare}
use Rattle.tuple_values.specs.Document.{ByteList}
use Rattle.tuple_values.specs.Keys.{hash_of}
use Rattle.shard_versions.specs.Histories.{History}
use Rattle.shard_versions.specs.Places.{last_where}
use Rattle.shard_versions.specs.Indexes.{is_write_of, is_delivery}
use Rattle.shard_versions.specs.declared.entry.Kind.{Kind}
use Rattle.shard_versions.specs.declared.entry.Kind.TheVariants.{Mark}
use Rattle.shard_versions.specs.declared.entry.Entry.{Entry}
use Rattle.shard_versions.specs.declared.tree.Node.{Node}
use Rattle.shard_versions.specs.declared.tree.Tree.{Tree}

-- whether the entry is a delivery from this source under this id, or a write of the id
abbrev pub is_at : Bool → ByteList → ByteList → Kind → Bool
is_at sent src id kind = if sent then is_delivery src id kind else is_write_of id kind

-- the tag of a source and an id, or of the id alone
abbrev pub tag_of : Bool → ByteList → ByteList → ℕ
tag_of sent src id = if sent then hash_of src * 2 ^ 32 + hash_of id else hash_of id

-- one byte of a mark: exclusive or, then times an odd number
abbrev pub mark_step : ℕ → ℕ → ℕ
mark_step mark byte = (bit_xor mark byte * 11400714819323198485) % 2 ^ 64

-- the mark of bytes, gone on with from a mark
abbrev pub mark_from : ℕ → ByteList → ℕ
mark_from mark [] = mark
mark_from mark (byte ∷ bytes) = mark_from (mark_step mark byte) bytes

-- the mark of a source and an id, or of the id alone
abbrev pub mark_of : Bool → ByteList → ByteList → ℕ
mark_of sent src id = mark_from (if sent then mark_from 1 src else 1) id

-- the side on which a mark and an id go on at this depth: by the bits of the mark from the highest
-- one on, and then by those of the id
abbrev pub side_of : ℕ → ByteList → ℕ → Bool
side_of mark id depth =
    if nat_lt depth 64
    then nat_eq (mark / 2 ^ (63 - depth) % 2) 1
    else nat_eq (slice_index_or id ((depth - 64) / 8) 0 / 2 ^ ((depth - 64) % 8) % 2) 1

-- the same of a source and an id, or of the id alone
abbrev pub goes : Bool → ByteList → ByteList → ℕ → Bool
goes sent src id depth = side_of (mark_of sent src id) id depth

-- no node
abbrev pub no_node : Node
no_node = record { place = 0; left = 0; right = 0 }

-- a node with this place and none below it
abbrev pub leaf : ℕ → Node
leaf place = record { place = place; left = 0; right = 0 }

-- the place of the node with this number, and 0 of none
abbrev pub place_at : List Node → ℕ → ℕ
place_at nodes zero = 0
place_at nodes (suc k) = (slice_index_or nodes k no_node).place

-- the number below a node on a side
abbrev pub on_side : Bool → Node → ℕ
on_side right n = if right then n.right else n.left

-- the number below the node with this number on a side, and 0 below none
abbrev pub below : List Node → Bool → ℕ → ℕ
below nodes right zero = 0
below nodes right (suc k) = on_side right (slice_index_or nodes k no_node)

-- the number to which so many steps lead from a first one
unfoldable pub way : (ℕ → Bool) → List Node → ℕ → ℕ → ℕ
way side nodes first zero = first
way side nodes first (suc depth) = below nodes (side depth) (way side nodes first depth)

-- an entry that does nothing
abbrev pub idle : Entry
idle = record { by = 0; kind = Mark }

-- whether the entry at a place, counted from 1, passes a test
abbrev pub passes : (Kind → Bool) → History → ℕ → Bool
passes test h zero = false
passes test h (suc k) = test (slice_index_or h k idle).kind

-- the way leads to this place, and no place before it passes
pub record Leads (side : ℕ → Bool) (test : Kind → Bool) (nodes : List Node) (h : History) (first last : ℕ) : Type 0 where
  pub depth : ℕ
  pub there : place_at nodes (way side nodes first depth) ≡ last
  pub before : (d : ℕ) → d < depth → passes test h (place_at nodes (way side nodes first d)) ≡ false

-- the nodes have places of entries, numbers rise from node to node, and the way of each key leads to
-- the last place of its entries
pub record IsIndex {X : Type 0} (test : X → Kind → Bool) (side : X → ℕ → Bool) (tag : X → ℕ)
    (first : ℕ → ℕ) (nodes : List Node) (h : History) : Type 0 where
  pub placed : (k : ℕ) → k < length nodes → (0 < place_at nodes (suc k)) × (place_at nodes (suc k) ≤ length h)
  pub begins : (t : ℕ) → first t ≤ length nodes
  pub rises : (right : Bool) (k : ℕ) → k < length nodes → 0 < below nodes right (suc k)
      → (suc k < below nodes right (suc k)) × (below nodes right (suc k) ≤ length nodes)
  pub leads : (x : X) (m : ℕ) → last_where (λ e. test x e.kind) h ≡ suc m
      → Leads (side x) (test x) nodes h (first (tag x)) (suc m)

-- the number of the first node of a tag
abbrev pub first_of : Tree → ℕ → ℕ
first_of tree tag = unwrap_or (get nat_eq tree.roots tag) 0

-- for how many more nodes there is room
abbrev pub room_of : Tree → ℕ
room_of tree = min (vec_capacity tree.nodes - vec_len tree.nodes) (spare tree.roots)

-- the tree finds the last places of the history's writes, or of its deliveries
abbrev pub Finds : Bool → Tree → History → Type 0
Finds sent tree h =
    IsIndex {X = ByteList × ByteList} (λ x. is_at sent x.0 x.1) (λ x. goes sent x.0 x.1) (λ x. tag_of sent x.0 x.1)
    (first_of tree) tree.nodes.items h

-- a walk has come to a node at this depth, and no place before it passes
pub record Comes (side : ℕ → Bool) (test : Kind → Bool) (nodes : List Node) (h : History) (first at depth : ℕ) : Type 0 where
  pub here : way side nodes first depth ≡ at
  pub some : 0 < at
  pub few : at ≤ length nodes
  pub deep : depth < at
  pub before : (d : ℕ) → d < depth → passes test h (place_at nodes (way side nodes first d)) ≡ false

-- where a walk stops: at a node whose place passes, or where there is none below on the side
pub record Stops (side : ℕ → Bool) (test : Kind → Bool) (nodes : List Node) (h : History) (first at : ℕ) (right : Bool) : Type 0 where
  pub depth : ℕ
  pub comes : Comes side test nodes h first at depth
  pub ends : passes test h (place_at nodes at) ≡ false → (right ≡ side depth) × (below nodes right at ≡ 0)

-- a node with a number put below it on a side
abbrev pub joined : Bool → ℕ → Node → Node
joined true number n = record { place = n.place; left = n.left; right = number }
joined false number n = record { place = n.place; left = number; right = n.right }

-- the same of the node with a number
abbrev pub linked : ℕ → Bool → ℕ → List Node → List Node
linked zero right number nodes = nodes
linked (suc k) right number nodes =
    slice_set nodes k (joined right number (slice_index_or nodes k no_node))

-- a node with another place
abbrev pub relocated : ℕ → Node → Node
relocated place n = record { place = place; left = n.left; right = n.right }

-- the same of the node with a number
abbrev pub moved : ℕ → ℕ → List Node → List Node
moved zero place nodes = nodes
moved (suc k) place nodes = slice_set nodes k (relocated place (slice_index_or nodes k no_node))
