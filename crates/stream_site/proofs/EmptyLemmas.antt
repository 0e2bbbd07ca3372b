-- Shards of no entry.
use Rattle.std.proofs.Common.{◌≡◌, ℕ, zero, suc, ◌+◌, ◌<◌, ◌≤◌, List, [], ◌∷◌, ◌++◌, length, map, drop, get_or, refl, sym, ap, ◌∙◌, subst, arith}
use Rattle.std.specs.Prelude.{replicate}
use Rattle.std.proofs.lemmas.List.{map-append, length-map, length-replicate, drop_all}
use Rattle.tuple_values.specs.declared.names.NameShards.{NameShards}
use Rattle.shard_versions.specs.Histories.{History}
use Rattle.shard_versions.specs.Shards.{Shard}
use Rattle.shard_versions.proofs.ListLemmas.{each_append}
use Rattle.topic_book.specs.Cells.{cells_in}
use Rattle.stream_site.specs.Logs.{AreEmpty}
use Rattle.stream_site.proofs.PlaceLemmas.{cells_here}

-- one more copy at the end
replicate_push : (n : ℕ) (h : History) → replicate n h ++ h ∷ [] ≡ replicate (suc n) h
replicate_push zero h = refl
replicate_push (suc n) h = ap (λ x. h ∷ x) (replicate_push n h)

-- one more empty shard
pub empty_push : (limit n m : ℕ) (shards new : List Shard) (x : Shard) → AreEmpty limit n shards
    → x.entries ≡ [] → x.limit ≡ limit → new ≡ shards ++ x ∷ [] → m ≡ n + 1
    → AreEmpty limit m new
empty_push limit n m shards new x a e l is more =
    let entries : map (λ (s : Shard). s.entries) (shards ++ x ∷ []) ≡ replicate (suc n) [] =
    map-append (λ (s : Shard). s.entries) shards (x ∷ [])
    ∙ (ap (λ y. y ++ x.entries ∷ []) a.entries
    ∙ (ap (λ y. replicate n [] ++ y ∷ []) e ∙ replicate_push n [])) in
    let s : suc n ≡ m = omega (arith, more) in
    subst (λ k. AreEmpty limit k new) s
    (subst (AreEmpty limit (suc n)) (sym is) (record {
      entries = entries;
      limits = each_append (λ (s : Shard). s.limit ≡ limit) shards (x ∷ []) a.limits (l, tt);
    }))

-- so many are there
pub empty_long : (limit n : ℕ) (shards : List Shard) → AreEmpty limit n shards → length shards ≡ n
empty_long limit n shards a =
    let e = ap length a.entries in
    let f : length (map (λ (s : Shard). s.entries) shards) ≡ length shards = simp length-map in
    let g = length-replicate n (let h : History = [] in h) in
    omega (arith, e, f, g)

-- the shards of one more collection
pub empty_more : (limit more : ℕ) (names : List NameShards) (i : ℕ) (n : NameShards)
    (shards new : List Shard) → i < length names → n ≡ get_or names i n → more ≡ n.shards
    → length shards + cells_in (drop i names) ≡ cells_in names
    → AreEmpty limit (length shards + more) new
    → length new + cells_in (drop (i + 1) names) ≡ cells_in names
empty_more limit more names i n shards new lt is same e a =
    let here = cells_here names i n lt is in
    let long = empty_long limit (length shards + more) new a in
    omega (arith, here, long, same, e)

-- none is left
pub empty_all : (limit : ℕ) (names : List NameShards) (i : ℕ) (shards : List Shard)
    → length names ≤ i → length shards + cells_in (drop i names) ≡ cells_in names
    → AreEmpty limit (length shards) shards → AreEmpty limit (cells_in names) shards
unfolding cells_in
empty_all limit names i shards le e a =
    let none : cells_in (drop i names) ≡ 0 = ap cells_in (drop_all i names le) in
    let all : length shards ≡ cells_in names = omega (arith, e, none) in
    subst (λ k. AreEmpty limit k shards) all a
