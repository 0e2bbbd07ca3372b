-- A world of empty cells.
use Rattle.std.proofs.Common.{◌≡◌, ℕ, ◌+◌, ◌<◌, ◌≤◌, List, [], ◌++◌, length, get_or, drop, replicate, sym, ap, ◌∙◌, append_assoc}
use Rattle.std.proofs.lemmas.List.{at_drop_more, at_drop_all, append-nil, replicate-append-replicate}
use Rattle.tuple_values.specs.declared.names.NameShards.{NameShards}
use Rattle.shard_versions.specs.Histories.{History}
use Rattle.once_core.specs.Cells.{cells_in}

-- one collection more
pub cells_more : (names : List NameShards) (k : ℕ) (n : NameShards) (cells : List History) → k < length names → n ≡ get_or names k n
    → replicate (cells_in names) [] ≡ cells ++ replicate (cells_in (drop k names)) []
    → replicate (cells_in names) [] ≡ (cells ++ replicate n.shards []) ++ replicate (cells_in (drop (k + 1) names)) []
unfolding cells_in
cells_more names k n cells lt is inv =
    let rest : List NameShards = drop (k + 1) names in
    inv ∙ at_drop_more (λ (r : List NameShards). cells ++ replicate (cells_in r) []) names k n lt
    ∙ ap (λ (x : NameShards). cells ++ replicate (x.shards + cells_in rest) []) (sym is)
    ∙ ap (λ r. cells ++ r) (sym (replicate-append-replicate n.shards (cells_in rest) []))
    ∙ sym (append_assoc cells (replicate n.shards []) (replicate (cells_in rest) []))

-- at the end no collection is to come
pub cells_all : (names : List NameShards) (k : ℕ) (cells : List History) → length names ≤ k
    → replicate (cells_in names) [] ≡ cells ++ replicate (cells_in (drop k names)) [] → cells ≡ replicate (cells_in names) []
unfolding cells_in
cells_all names k cells le inv =
    sym (inv ∙ at_drop_all (λ (r : List NameShards). cells ++ replicate (cells_in r) []) names k le ∙ append-nil cells)
