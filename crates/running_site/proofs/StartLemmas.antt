-- The passes and the cells with which a site starts.
use Rattle.std.proofs.Common.{◌≡◌, ℕ, zero, suc, ◌+◌, ◌<◌, false, List, [], ◌∷◌, length, get_or, map, replicate, slice_index, refl, sym, ap, ◌∙◌, subst, arith}
use Rattle.std.specs.Prelude.{All, Contains, Option, Some, None}
use Rattle.std.specs.List.{AllByRecursion}
use Rattle.std.proofs.lemmas.List.{length-map, length-replicate}
use Rattle.tuple_values.specs.declared.names.NameShards.{NameShards}
use Rattle.atomic_table.specs.Seated.{TableId}
use Rattle.topic_book.specs.Cells.{cells_in}
use Rattle.shard_versions.specs.declared.cut.CutMark.{CutMark}
use Rattle.shard_versions.specs.declared.cut.OwnMark.{OwnMark}
use Rattle.exchange_rules.specs.declared.log_entry.LogEntry.{LogEntry}
use Rattle.exchange_rules.specs.Cells.{Log}
use Rattle.site_laws.specs.Looks.{last_seen}
use Rattle.site_laws.specs.Sealings.{names_told}
use Rattle.site_laws.specs.SiteCells.{AreSeenOf, IsLawful}
use Rattle.site_laws.specs.declared.cell_about.CellAbout.{CellAbout}
use Rattle.site_laws.proofs.KeepLemmas.{nothing-lawful}
use Rattle.turn_table.specs.Calls.{known, table_of}
use Rattle.turn_table.specs.Knowledge.{fresh, hand}
use Rattle.turn_table.specs.declared.knowledge.Known.{Known}
use Rattle.turn_table.specs.declared.rule.Opening.{Opening}
use Rattle.site_cells.specs.Cells.{abouts_of, no_logs}
use Rattle.logged_cells.specs.Cells.{about_in, is_closed, is_shut_in, log_of_cell, IsInStepWith, IsSettled}
use Rattle.logged_cells.specs.declared.logged_cell.LoggedCell.{LoggedCell}
use Rattle.running_site.specs.Passes.{no_faults, layout_in, new_writer, sight_in, sight_where, writer_in, writer_of, writer_where, IsKnowing, IsOpened, IsPassIn, IsPassOf, TablePass}
use Rattle.running_site.specs.Records.{content, recorded}
use Rattle.running_site.specs.declared.pass.PassOf.{PassOf}
use Rattle.running_site.proofs.CloseLemmas.{all-of}
use Rattle.running_site.proofs.FitLemmas.{fresh-fit}
use Rattle.running_site.proofs.KnownLemmas.{names_of, were-are}
use Rattle.running_site.proofs.SignedLemmas.{fresh-signed, listed-of}

-- the same thing lies at each place
all-same : {X : Type 0} (n i : ℕ) (x : X) → get_or (replicate n x) i x ≡ x
all-same zero i x = refl
all-same (suc n) zero x = refl
all-same (suc n) (suc i) x = all-same n i x

module _ {D : Type 0} where
  -- the law holds of cells with no entry
  pub start-lawful : (names : List NameShards) (limit : ℕ) (cells : List (LoggedCell D))
      → map about_in cells ≡ abouts_of names limit → map log_of_cell cells ≡ no_logs names
      → IsLawful (names_told (map about_in cells)) (map log_of_cell cells)
  start-lawful names limit cells a e =
      subst (λ ns. IsLawful ns (map log_of_cell cells))
      (sym (ap names_told a ∙ names_of names limit))
      (subst (IsLawful names) (sym e) (nothing-lawful names))

  -- and none of them has one
  pub start-new : (P : LogEntry → Type 0) (n : ℕ) (cells : List (LoggedCell D))
      → map log_of_cell cells ≡ replicate n [] → All (λ cell. All P (log_of_cell cell)) cells
  start-new P n cells e = all-of (λ cell. All P (log_of_cell cell)) cells (go n cells e)
    where
      go : (n : ℕ) (cells : List (LoggedCell D)) → map log_of_cell cells ≡ replicate n []
          → AllByRecursion (λ cell. All P (log_of_cell cell)) cells
      go n [] e = tt
      go zero (c ∷ cells) e = absurd (cc)
      go (suc n) (c ∷ cells) e =
          let here : log_of_cell c ≡ [] = cc in
          let rest : map log_of_cell cells ≡ replicate n [] = cc in (
            subst (All P) (sym here) (λ k d lt. absurd (omega (arith, lt))),
            go n cells rest,
          )

  -- how many cells there are
  pub start-long : (names : List NameShards) (cells : List (LoggedCell D))
      → map log_of_cell cells ≡ no_logs names → length cells ≡ cells_in names + 1
  start-long names cells e =
      let a = ap length e in
      let b : length (map log_of_cell cells) ≡ length cells = simp length-map in
      let c : length (no_logs names) ≡ cells_in names + 1 = simp length-replicate in
      omega (arith, a, b, c)

module _ (D : Type 0) (names : List NameShards) (limit : ℕ) (abouts : List CellAbout) (start : List Log)
    (all : List ℕ) (count : ℕ) (told : abouts ≡ abouts_of names limit)
    (begun : start ≡ no_logs names) where
  -- a pass of the table that starts
  abbrev new_pass : ℕ → Known CellAbout LogEntry
  new_pass = fresh abouts start all count

  -- what it knows
  fresh-knowing : (n : ℕ) → Contains all n → IsKnowing names limit (new_pass n)
  fresh-knowing n listed = record {
    about = told;
    begun = begun;
    listed = listed-of all n listed;
    signed = fresh-signed all count;
    since = λ cell looked.
        let none = all-same count cell (let z : ℕ = 0 in z) in absurd (omega (arith, none, looked));
    fit = fresh-fit names count;
  }

  -- each new pass is the table's
  pub fresh-own : (table : TableId) (key : Opening (LoggedCell D)) (numbers : List ℕ)
      (inside : List (TablePass D)) (made : List (PassOf (TablePass D)))
      → IsOpened names limit key.cells.value → all ≡ key.numbers.value
      → AllByRecursion (Contains all) numbers → map content made ≡ map recorded inside
      → map known inside ≡ map new_pass numbers
      → AllByRecursion (λ (p : TablePass D). table_of p ≡ table) inside
      → AllByRecursion (IsPassOf table key (layout_in names limit)) made
  fresh-own table key numbers inside [] o w l e f a = tt
  fresh-own table key numbers [] (p ∷ made) o w l e f a = absurd (cc)
  fresh-own table key [] (q ∷ inside) (p ∷ made) o w l e f a = absurd (cc)
  fresh-own table key (n ∷ numbers) (q ∷ inside) (p ∷ made) o w l e f a =
      let here : content p ≡ recorded q = cc in
      let rest : map content made ≡ map recorded inside = cc in
      let knows : known q ≡ new_pass n = cc in
      let others : map known inside ≡ map new_pass numbers = cc in (
        record {
          opened = o;
          inside = q;
          there = ap (λ (t : Option (TablePass D) × List CutMark × List OwnMark × ℕ). t.0) here;
          table_is = a.0;
          numbered = ap (λ (k : Known CellAbout LogEntry). k.numbers) knows ∙ w;
          knowing = subst (IsKnowing names limit) (sym knows) (fresh-knowing n l.0);
          free = λ cell. ap (λ (k : Known CellAbout LogEntry). hand k cell) knows
              ∙ all-same count cell None;
        },
        fresh-own table key numbers inside made o w l.1 rest others a.1,
      )

  -- and a writer that has done nothing
  pub fresh-new : (numbers : List ℕ) (inside : List (TablePass D)) (made : List (PassOf (TablePass D)))
      → count ≡ cells_in names + 1 → map content made ≡ map recorded inside
      → map known inside ≡ map new_pass numbers
      → map writer_of made ≡ map (new_writer names) numbers
  fresh-new [] [] [] c e f = refl
  fresh-new (n ∷ numbers) [] made c e f = absurd (cc)
  fresh-new [] (q ∷ inside) made c e f = absurd (cc)
  fresh-new [] [] (p ∷ made) c e f = absurd (cc)
  fresh-new (n ∷ numbers) (q ∷ inside) [] c e f = absurd (cc)
  fresh-new (n ∷ numbers) (q ∷ inside) (p ∷ made) c e f =
      let here : content p ≡ recorded q = cc in
      let rest : map content made ≡ map recorded inside = cc in
      let knows : known q ≡ new_pass n = cc in
      let others : map known inside ≡ map new_pass numbers = cc in
      let is : writer_of p ≡ new_writer names n =
      ap (λ (t : Option (TablePass D) × List CutMark × List OwnMark × ℕ). writer_where t.0 t.1 t.2) here
      ∙ ((λ i. writer_in (knows i) [] [])
      ∙ (λ i. record {
        me = n;
        seen = replicate (c i) [];
        marks = [];
        own = [];
        looks = replicate (c i) 0;
        faults = no_faults (c i);
      })) in
      (λ i. is i ∷ fresh-new numbers inside made c rest others i)

module _ {D : Type 0} where
  -- the looks of a pass's sight are its writer's
  pub looks-same : (o : Option (TablePass D)) (marks : List CutMark) (own : List OwnMark)
      → (sight_where o).looks ≡ (writer_where o marks own).looks
  looks-same None marks own = refl
  looks-same (Some p) marks own = refl

  -- what its looks showed it has seen
  pub since-of : (table : TableId) (key : Opening (LoggedCell D)) (names : List NameShards) (limit : ℕ)
      (o : Option (TablePass D)) → IsPassIn table key (layout_in names limit) o → (cell : ℕ)
      → 0 < slice_index (sight_where o).looks cell
      → AreSeenOf (last_seen (sight_where o) cell) (sight_where o).seen
  since-of table key names limit o p =
      let inside = sight_in (known p.inside) in
      subst (λ x. (cell : ℕ) → 0 < slice_index (sight_where x).looks cell
      → AreSeenOf (last_seen (sight_where x) cell) (sight_where x).seen) (sym p.there)
      (λ cell looked. were-are (last_seen inside cell) inside.seen (p.knowing.since cell looked))

  -- the time of each new pass is 0
  pub fresh-now : (inside : List (TablePass D)) (made : List (PassOf (TablePass D)))
      → map content made ≡ map recorded inside
      → AllByRecursion (λ (p : PassOf (TablePass D)). p.now ≡ 0) made
  fresh-now inside [] e = tt
  fresh-now [] (p ∷ made) e = absurd (cc)
  fresh-now (q ∷ inside) (p ∷ made) e =
      let here : content p ≡ recorded q = cc in
      let rest : map content made ≡ map recorded inside = cc in (
        ap (λ (t : Option (TablePass D) × List CutMark × List OwnMark × ℕ). t.3) here,
        fresh-now inside made rest,
      )

  -- a cell without a log waits for none, and isn't shut
  pub idle-alone : (seen : D → Option (List ℕ)) (may_leave : D → List ℕ → Type 0)
      (cell : LoggedCell D) → cell.log ≡ None
      → IsSettled seen may_leave cell × (is_closed cell ≡ false)
  idle-alone seen may_leave cell none =
      (∣ subst (IsInStepWith seen may_leave cell.value) (sym none) tt ∣₁, ap is_shut_in none)
