-- Where cells are, and what an actor has seen of them.
use Rattle.std.proofs.Common.{◌≡◌, ℕ, zero, suc, ◌+◌, ◌-◌, ◌^◌, ◌<◌, ◌≤◌, min, true, false, cond, ltb, List, [], ◌∷◌, length, get_or, take, drop, Some, None, sym, ap, ◌∙◌, arith, bytes_eq}
use Rattle.std.proofs.lemmas.Bool.{lt-ltb}
use Rattle.std.proofs.lemmas.Bool.Decides.{nat_tests}
use Rattle.std.specs.List.{slice_get}
use Rattle.std.proofs.lemmas.List.{at_drop_more, at_drop_all, get_or_past}
use Rattle.std.proofs.Math.Seq.{take-nil}
use Rattle.tuple_values.specs.Document.{ByteList}
use Rattle.tuple_values.specs.declared.names.NameShards.{NameShards}
use Rattle.shard_versions.specs.Histories.{History}
use Rattle.topic_book.specs.Fitness.{shards_of}
use Rattle.once_core.specs.Cells.{cell_of, place_of, place_in, history_at}
use Rattle.once_core.specs.Worlds.{is_of, known_upto, known_shards, seen_by}
use Rattle.once_core.specs.declared.world.World.{World}
use Rattle.once_core.specs.declared.world.Known.{Known}
use Rattle.once_core.proofs.CellLemmas.{got_none, got_some}

module _ (names : List NameShards) (i : ℕ) (n : NameShards) (lt : i < length names) (is : n ≡ get_or names i n) where
  rest : {Y : Type 0} (F : List NameShards → Y) → F (drop i names) ≡ F (n ∷ drop (i + 1) names)
  rest F = at_drop_more F names i n lt ∙ ap (λ x. F (x ∷ drop (i + 1) names)) (sym is)

  -- the collection is here
  pub shards-here : (c : ByteList) → bytes_eq n.name c ≡ true → shards_of (drop i names) c ≡ n.shards
  unfolding shards_of
  shards-here c e = rest (λ ns. shards_of ns c) ∙ ap (λ b. cond b n.shards (shards_of (drop (i + 1) names) c)) e

  -- or to come
  pub shards-on : (c : ByteList) → bytes_eq n.name c ≡ false → shards_of (drop i names) c ≡ shards_of (drop (i + 1) names) c
  unfolding shards_of
  shards-on c e = rest (λ ns. shards_of ns c) ∙ ap (λ b. cond b n.shards (shards_of (drop (i + 1) names) c)) e

  -- and so is its cell
  pub cell-here : (c : ByteList) (shard : ℕ) → bytes_eq n.name c ≡ true → cell_of (drop i names) c shard ≡ shard
  unfolding cell_of
  cell-here c shard e = rest (λ ns. cell_of ns c shard) ∙ ap (λ b. cond b shard (n.shards + cell_of (drop (i + 1) names) c shard)) e

  pub cell-on : (c : ByteList) (shard : ℕ) → bytes_eq n.name c ≡ false
      → cell_of (drop i names) c shard ≡ n.shards + cell_of (drop (i + 1) names) c shard
  unfolding cell_of
  cell-on c shard e = rest (λ ns. cell_of ns c shard) ∙ ap (λ b. cond b shard (n.shards + cell_of (drop (i + 1) names) c shard)) e

  -- the place is here
  pub place-here : (left : ℕ) → left < n.shards → place_of (drop i names) left ≡ Some (place_in n left)
  unfolding place_of
  place-here left l =
      rest (λ ns. place_of ns left) ∙ ap (λ b. cond b (Some (place_in n left)) (place_of (drop (i + 1) names) (left - n.shards))) (lt-ltb left n.shards l)

  -- or to come
  pub place-on : (left : ℕ) → n.shards ≤ left → place_of (drop i names) left ≡ place_of (drop (i + 1) names) (left - n.shards)
  unfolding place_of
  place-on left l =
      let past : ltb left n.shards ≡ false = grind (arith, nat_tests) in
      rest (λ ns. place_of ns left) ∙ ap (λ b. cond b (Some (place_in n left)) (place_of (drop (i + 1) names) (left - n.shards))) past

-- behind all there is none
pub shards-end : (names : List NameShards) (i : ℕ) (c : ByteList) → length names ≤ i → shards_of (drop i names) c ≡ 0
unfolding shards_of
shards-end names i c le = at_drop_all (λ (ns : List NameShards). shards_of ns c) names i le

pub cell-end : (names : List NameShards) (i : ℕ) (c : ByteList) (shard : ℕ) → length names ≤ i → cell_of (drop i names) c shard ≡ shard
unfolding cell_of
cell-end names i c shard le = at_drop_all (λ (ns : List NameShards). cell_of ns c shard) names i le

pub place-end : (names : List NameShards) (i left : ℕ) → length names ≤ i → place_of (drop i names) left ≡ None
unfolding place_of
place-end names i left le = at_drop_all (λ (ns : List NameShards). place_of ns left) names i le

-- a sum that stops at a limit, with one more part
pub capped-more : (whole before part rest after limit : ℕ) → min whole limit ≡ min (before + (part + rest)) limit
    → after ≡ min (before + part) limit → min whole limit ≡ min (after + rest) limit
capped-more whole before part rest after limit e a = omega arith

-- and at its end
pub capped-end : (whole before rest part after limit : ℕ) → min whole limit ≡ min (before + rest) limit
    → rest ≡ part → after ≡ min (before + part) limit → after ≡ min whole limit
capped-end whole before rest part after limit e r a = omega arith

module _ (known : List Known) (i : ℕ) (k : Known) (lt : i < length known) (is : k ≡ get_or known i k) (actor cell : ℕ) where
  rest-known : known_upto actor cell (drop i known) ≡ cond (is_of actor cell k) k.upto (known_upto actor cell (drop (i + 1) known))
  rest-known =
      at_drop_more (known_upto actor cell) known i k lt
      ∙ ap (λ (x : Known). cond (is_of actor cell x) x.upto (known_upto actor cell (drop (i + 1) known))) (sym is)

  -- what is known of the cell stands here
  pub known-here : is_of actor cell k ≡ true → known_upto actor cell (drop i known) ≡ k.upto
  known-here e = rest-known ∙ ap (λ b. cond b k.upto (known_upto actor cell (drop (i + 1) known))) e

  -- or is to come
  pub known-on : is_of actor cell k ≡ false → known_upto actor cell (drop i known) ≡ known_upto actor cell (drop (i + 1) known)
  known-on e = rest-known ∙ ap (λ b. cond b k.upto (known_upto actor cell (drop (i + 1) known))) e

-- where nothing stands nothing is known
pub known-end : (known : List Known) (i actor cell : ℕ) → length known ≤ i → known_upto actor cell (drop i known) ≡ 0
known-end known i actor cell le = at_drop_all (known_upto actor cell) known i le

-- what an actor has seen of a cell, by the cell's history
seen-shards : (actor first : ℕ) (known : List Known) (hs : List History) (cell : ℕ)
    → get_or (known_shards actor known first hs) cell [] ≡ take (known_upto actor (first + cell) known) (get_or hs cell [])
seen-shards actor first known [] cell = sym (take-nil (known_upto actor (first + cell) known))
seen-shards actor first known (h ∷ hs) zero =
    ap (λ n. take (known_upto actor n known) h) (let e : first ≡ first + 0 = omega arith in e)
seen-shards actor first known (h ∷ hs) (suc cell) =
    seen-shards actor (first + 1) known hs cell
    ∙ ap (λ n. take (known_upto actor n known) (get_or hs cell [])) (let e : first + 1 + cell ≡ first + suc cell = omega arith in e)

-- an actor has seen the first entries of each cell
pub seen-history : (actor : ℕ) (w : World) (cell : ℕ)
    → history_at (seen_by actor w) cell ≡ take (known_upto actor cell w.known) (history_at w.histories cell)
unfolding seen_by
seen-history actor w cell =
    seen-shards actor 0 w.known w.histories.shards cell
    ∙ ap (λ n. take (known_upto actor n w.known) (history_at w.histories cell)) (let e : 0 + cell ≡ cell = omega arith in e)

-- where a history is got it is what was seen of it
pub seen-some : (actor : ℕ) (w : World) (cell upto : ℕ) (h : History) → Some h ≡ slice_get w.histories.shards cell
    → upto ≡ known_upto actor cell w.known → take upto h ≡ history_at (seen_by actor w) cell
seen-some actor w cell upto h e u =
    ap (λ n. take n h) u
    ∙ ap (take (known_upto actor cell w.known)) (sym (got_some w.histories.shards cell h [] e))
    ∙ sym (seen-history actor w cell)

-- behind all cells nothing was seen
pub seen-past : (actor : ℕ) (w : World) (cell : ℕ) → length w.histories.shards ≤ cell → [] ≡ history_at (seen_by actor w) cell
seen-past actor w cell le =
    sym (seen-history actor w cell
    ∙ ap (take (known_upto actor cell w.known)) (get_or_past w.histories.shards cell [] le)
    ∙ take-nil (known_upto actor cell w.known))

-- where none is got, nothing was seen
pub seen-none : (actor : ℕ) (w : World) (cell : ℕ) → None ≡ slice_get w.histories.shards cell → [] ≡ history_at (seen_by actor w) cell
seen-none actor w cell e =
    sym (seen-history actor w cell
    ∙ ap (take (known_upto actor cell w.known)) (got_none w.histories.shards cell [] e)
    ∙ take-nil (known_upto actor cell w.known))

-- what was seen of the book
pub seen-book : (actor : ℕ) (w : World) (upto : ℕ) → upto ≡ known_upto actor (length w.histories.shards) w.known
    → take upto w.histories.book ≡ (seen_by actor w).book
unfolding seen_by
seen-book actor w upto e = ap (λ n. take n w.histories.book) e

-- a number past a limit is behind all cells
pub seen-far : (actor : ℕ) (w : World) (cell : ℕ) (capped : ℕ) → capped ≡ min cell (2 ^ 64 - 1)
    → length w.histories.shards ≤ capped → [] ≡ history_at (seen_by actor w) cell
seen-far actor w cell capped e le = seen-past actor w cell (omega arith)

-- and one below all is itself
pub capped-near : (cell capped n : ℕ) → capped ≡ min cell (2 ^ 64 - 1) → capped < n → n < 2 ^ 64 → capped ≡ cell
capped-near cell capped n e l m = omega arith
