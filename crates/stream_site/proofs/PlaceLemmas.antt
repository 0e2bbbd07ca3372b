-- The names of collections, one after another.
use Rattle.std.proofs.Common.{◌≡◌, ℕ, suc, ◌+◌, ◌^◌, ◌<◌, ◌≤◌, Bool, List, ◌∷◌, length, get_or, drop, sym, ap, ◌∙◌, arith, drop-cons, if◌then◌else◌}
use Rattle.std.proofs.lemmas.List.{drop_all}
use Rattle.std.specs.Prelude.{bytes_eq}
use Rattle.tuple_values.specs.Document.{ByteList}
use Rattle.tuple_values.specs.declared.names.NameShards.{NameShards}
use Rattle.topic_book.specs.Cells.{cells_in, cell_of}
use Rattle.topic_book.specs.Fitness.{shards_of}
use Rattle.exchange_rules.specs.Following.{Writer}
use Rattle.exchange_rules.specs.Rows.{Layout, HasCell}
use Rattle.exchange_rules.proofs.CellLemmas.{cell_of-from, cell_of-within}

-- a list from an item on
pub from_item : {X : Type 0} (xs : List X) (i : ℕ) (x : X) → i < length xs → x ≡ get_or xs i x
    → drop i xs ≡ x ∷ drop (i + 1) xs
from_item xs i x lt e =
    let s : suc i ≡ i + 1 = omega arith in
    drop-cons xs i x lt ∙ (ap (λ y. y ∷ drop (suc i) xs) (sym e) ∙ ap (λ n. x ∷ drop n xs) s)

-- a choice by a test that is known
choose : {X : Type 0} (b c : Bool) (x y : X) → b ≡ c
    → (if b then x else y) ≡ (if c then x else y)
choose b c x y e = ap (λ z. if z then x else y) e

-- the first cell of a collection is that of the one of this name, or of one behind it
pub cell_here : (names : List NameShards) (c : ByteList) (i : ℕ) (n : NameShards) (b : Bool)
    → i < length names → n ≡ get_or names i n → bytes_eq n.name c ≡ b
    → cell_of (drop i names) c 0 ≡ (if b then 0 else n.shards + cell_of (drop (i + 1) names) c 0)
unfolding cell_of
cell_here names c i n b lt e h =
    ap (λ x. cell_of x c 0) (from_item names i n lt e)
    ∙ choose (bytes_eq n.name c) b 0 (n.shards + cell_of (drop (i + 1) names) c 0) h

-- the cells from a collection on
pub cells_here : (names : List NameShards) (i : ℕ) (n : NameShards) → i < length names
    → n ≡ get_or names i n → cells_in (drop i names) ≡ n.shards + cells_in (drop (i + 1) names)
unfolding cells_in
cells_here names i n lt e = ap cells_in (from_item names i n lt e)

-- no cell is behind the last collection
pub cell_end : (names : List NameShards) (c : ByteList) (i : ℕ) → length names ≤ i
    → cell_of (drop i names) c 0 ≡ 0
unfolding cell_of
cell_end names c i le = ap (λ x. cell_of x c 0) (drop_all i names le)

-- none is counted behind the last collection
pub cells_end : (names : List NameShards) (i : ℕ) → length names ≤ i
    → cells_in (drop i names) ≡ 0
unfolding cells_in
cells_end names i le = ap cells_in (drop_all i names le)

-- a test of a name, by what it compared
pub name_test : (name text c : ByteList) (b answer : Bool) → text ≡ name
    → answer ≡ bytes_eq text c → answer ≡ b → bytes_eq name c ≡ b
name_test name text c b answer e f g = ap (λ x. bytes_eq x c) (sym e) ∙ (sym f ∙ g)

-- a sum is the cell of a shard, which its writer has
pub record IsCell (l : Layout) (w : Writer) (c : ByteList) (shard cell : ℕ) : Type 0 where
  pub is : cell ≡ cell_of l.names c shard
  pub here : HasCell l w cell
  pub fits : cell < 2 ^ 32

-- by what was read of the names
pub located : (l : Layout) (w : Writer) (names : List NameShards) (text c : ByteList)
    (first more shard : ℕ) → names ≡ l.names → text ≡ c → first ≡ cell_of names text 0
    → more ≡ shard → shard < shards_of l.names c → length w.seen ≡ cells_in l.names + 1
    → cells_in l.names < 2 ^ 32 → IsCell l w c shard (first + more)
located l w names text c first more shard e t f m lt wide few =
    let at : first ≡ cell_of l.names c 0 =
    f ∙ (ap (λ x. cell_of x text 0) e ∙ ap (λ x. cell_of l.names x 0) t) in
    let is : first + more ≡ cell_of l.names c shard =
    ap (λ x. x + more) at
    ∙ (ap (λ x. cell_of l.names c 0 + x) m ∙ sym (cell_of-from l.names c shard)) in
    let within = cell_of-within l.names c shard lt in
    record {
      is = is;
      here = record {
        in_range = omega (arith, is, within);
        seen = omega (arith, is, within, wide);
      };
      fits = omega (arith, is, within, few);
    }
