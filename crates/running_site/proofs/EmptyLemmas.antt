-- The cells of a site with no entry.
use Rattle.std.proofs.Common.{◌≡◌, ℕ, zero, suc, ◌+◌, List, [], ◌∷◌, ◌++◌, map, replicate, refl, sym, ap, ◌∙◌, subst, arith}
use Rattle.std.specs.List.{AllByRecursion}
use Rattle.std.specs.Prelude.{None}
use Rattle.std.proofs.lemmas.List.{map-append}
use Rattle.shard_versions.proofs.ListLemmas.{each_append}
use Rattle.tuple_values.specs.declared.names.NameShards.{NameShards}
use Rattle.shard_versions.specs.Shards.{Shard}
use Rattle.topic_book.specs.Cells.{cells_in}
use Rattle.exchange_rules.specs.Cells.{Log, log_of}
use Rattle.site_laws.specs.declared.cell_about.CellAbout.{CellAbout}
use Rattle.stream_site.specs.Logs.{AreEmpty}
use Rattle.site_cells.specs.Cells.{abouts_of, no_logs}
use Rattle.logged_cells.specs.Cells.{about_in, log_of_cell}
use Rattle.site_cells.specs.Values.{about_book, about_shard}
use Rattle.logged_cells.specs.declared.logged_cell.LoggedCell.{LoggedCell}

-- what is told of a shard
abbrev pub told : List NameShards → Shard → CellAbout
told names shard = about_shard names shard.limit

-- a shard's log
abbrev pub shard_log : Shard → Log
shard_log shard = log_of shard.entries

module _ {D : Type 0} where
  -- the cells hold these shards
  pub record AreCells (names : List NameShards) (cells : List (LoggedCell D)) (shards : List Shard)
      : Type 0 where
    pub abouts : map about_in cells ≡ map (told names) shards
    pub logs : map log_of_cell cells ≡ map shard_log shards
    pub alone : AllByRecursion (λ (cell : LoggedCell D). cell.log ≡ None) cells

  -- one more
  pub cells-push : (names : List NameShards) (cells : List (LoggedCell D)) (shards : List Shard)
      (cell : LoggedCell D) (shard : Shard) → AreCells names cells shards
      → about_in cell ≡ told names shard → log_of_cell cell ≡ shard_log shard → cell.log ≡ None
      → AreCells names (cells ++ cell ∷ []) (shards ++ shard ∷ [])
  cells-push names cells shards cell shard a e f none = record {
    abouts = map-append about_in cells (cell ∷ [])
        ∙ ((λ i. a.abouts i ++ e i ∷ []) ∙ sym (map-append (told names) shards (shard ∷ [])));
    logs = map-append log_of_cell cells (cell ∷ [])
        ∙ ((λ i. a.logs i ++ f i ∷ []) ∙ sym (map-append shard_log shards (shard ∷ [])));
    alone = each_append (λ (c : LoggedCell D). c.log ≡ None) cells (cell ∷ []) a.alone (none, tt);
  }

-- what is told of shards with this limit
told-all : (names : List NameShards) (limit n : ℕ) (shards : List Shard)
    → map (λ (s : Shard). s.entries) shards ≡ replicate n []
    → AllByRecursion (λ (s : Shard). s.limit ≡ limit) shards
    → map (told names) shards ≡ replicate n (about_shard names limit)
told-all names limit zero [] e a = refl
told-all names limit (suc n) [] e a = absurd (cc)
told-all names limit zero (s ∷ shards) e a = absurd (cc)
told-all names limit (suc n) (s ∷ shards) e a =
    let rest : map (λ (s : Shard). s.entries) shards ≡ replicate n [] = cc in
    (λ i. about_shard names (a.0 i) ∷ told-all names limit n shards rest a.1 i)

-- the logs of shards with no entry
logs-all : (n : ℕ) (shards : List Shard)
    → map (λ (s : Shard). s.entries) shards ≡ replicate n []
    → map shard_log shards ≡ replicate n []
logs-all zero [] e = refl
logs-all (suc n) [] e = absurd (cc)
logs-all zero (s ∷ shards) e = absurd (cc)
logs-all (suc n) (s ∷ shards) e =
    let here : s.entries ≡ [] = cc in
    let rest : map (λ (s : Shard). s.entries) shards ≡ replicate n [] = cc in
    (λ i. log_of (here i) ∷ logs-all n shards rest i)

-- one more log with no entry
one-more : (n : ℕ) → replicate n [] ++ [] ∷ [] ≡ replicate (n + 1) (let l : Log = [] in l)
one-more n = go n ∙ (let e : suc n ≡ n + 1 = omega arith in ap (λ m. replicate m []) e)
  where
    go : (n : ℕ) → replicate n [] ++ [] ∷ [] ≡ replicate (suc n) (let l : Log = [] in l)
    go zero = refl
    go (suc n) = ap (λ (l : List Log). [] ∷ l) (go n)

module _ {D : Type 0} where
  -- the cells of a site with no entry are told the same, and have none
  pub cells-empty : (names : List NameShards) (limit : ℕ) (cells : List (LoggedCell D))
      (shards all : List Shard) (book : LoggedCell D) → AreCells names cells shards → shards ≡ all
      → AreEmpty limit (cells_in names) all
      → about_in book ≡ about_book names → log_of_cell book ≡ [] → book.log ≡ None
      → (map about_in (cells ++ book ∷ []) ≡ abouts_of names limit)
      × (map log_of_cell (cells ++ book ∷ []) ≡ no_logs names)
      × AllByRecursion (λ (cell : LoggedCell D). cell.log ≡ None) (cells ++ book ∷ [])
  cells-empty names limit cells shards all book a same empty e f none =
      let n = cells_in names in
      let entries : map (λ (s : Shard). s.entries) shards ≡ replicate n [] =
      ap (map (λ (s : Shard). s.entries)) same ∙ empty.entries in
      let limits = subst (AllByRecursion (λ (s : Shard). s.limit ≡ limit)) (sym same)
      empty.limits in
      let abouts = a.abouts ∙ told-all names limit n shards entries limits in
      let logs = a.logs ∙ logs-all n shards entries in (
        map-append about_in cells (book ∷ []) ∙ (λ i. abouts i ++ e i ∷ []),
        map-append log_of_cell cells (book ∷ []) ∙ ((λ i. logs i ++ f i ∷ []) ∙ one-more n),
        each_append (λ (c : LoggedCell D). c.log ≡ None) cells (book ∷ []) a.alone (none, tt),
      )
