-- The law of all histories at a site of one pass: a moment of it shows just what the pass has seen.
use Rattle.std.proofs.Common.{◌≡◌, ◌≢◌, ℕ, suc, ◌+◌, List, [], ◌∷◌, ◌++◌, length, get_or, refl, sym, ap, ◌∙◌, subst, arith, append-nil}
use Rattle.std.specs.Prelude.{All, Contains, Option}
use Rattle.std.specs.List.{AllByRecursion}
use Rattle.std.proofs.lemmas.List.{length-replicate}
use Rattle.std.proofs.lemmas.List.Elements.{All-weaker}
use Rattle.tuple_values.specs.declared.names.NameShards.{NameShards}
use Rattle.shard_versions.specs.declared.cut.CutMark.{CutMark}
use Rattle.shard_versions.specs.declared.cut.OwnMark.{OwnMark}
use Rattle.shard_versions.proofs.ListLemmas.{each_right}
use Rattle.topic_book.specs.Cells.{cells_in}
use Rattle.exchange_rules.specs.Cells.{Log, author_of}
use Rattle.exchange_rules.specs.Own.{IsAlone}
use Rattle.exchange_rules.specs.declared.log_entry.LogEntry.{LogEntry}
use Rattle.exchange_rules.proofs.AloneLemmas.{all_drop}
use Rattle.site_laws.specs.Sealings.{names_told}
use Rattle.site_laws.specs.SiteCells.{IsLawful}
use Rattle.site_laws.specs.declared.cell_about.CellAbout.{CellAbout}
use Rattle.stream_site.specs.Lone.{IsAllOwn}
use Rattle.turn_table.specs.Histories.{at}
use Rattle.turn_table.specs.Knowledge.{IsWide}
use Rattle.turn_table.specs.Steps.{Watched}
use Rattle.turn_table.specs.declared.knowledge.Known.{Known}
use Rattle.logged_cells.specs.Cells.{about_in, faults_of, is_closed, log_of_cell, IsSettled}
use Rattle.site_cells.specs.Values.{law_of, tells_of}
use Rattle.running_site.specs.Passes.{writer_in, IsKnowing, IsListed}
use Rattle.running_site.proofs.AloneLemmas.{only-one}
use Rattle.running_site.proofs.KnownLemmas.{each_of, names_of}
use Rattle.running_site.proofs.SignedLemmas.{listed-of, none-at}

-- lists of as many logs, each the same
same-logs : (xs ys : List Log) → length xs ≡ length ys
    → ((cell : ℕ) → get_or xs cell [] ≡ get_or ys cell []) → xs ≡ ys
same-logs [] [] n h = refl
same-logs [] (y ∷ ys) n h = absurd (omega (arith, n))
same-logs (x ∷ xs) [] n h = absurd (omega (arith, n))
same-logs (x ∷ xs) (y ∷ ys) n h =
    (λ i. h 0 i ∷ same-logs xs ys (omega (arith, n)) (λ cell. h (suc cell)) i)

-- entries that are another's and carry the only number there is are none
lone-nothing : (numbers : List ℕ) (me : ℕ) (log new : Log) → numbers ≡ me ∷ []
    → All (λ entry. IsListed numbers (author_of entry)) (log ++ new)
    → All (λ entry. author_of entry ≢ me) new → new ≡ []
lone-nothing numbers me log [] one listed others = refl
lone-nothing numbers me log (e ∷ new) one listed others =
    let P : LogEntry → Type 0 = λ entry. IsListed numbers (author_of entry) in
    let own : AllByRecursion P (e ∷ new) =
    each_right P log (e ∷ new) (each_of P (log ++ e ∷ new) listed) in
    let other = each_of (λ entry. author_of entry ≢ me) (e ∷ new) others in
    absurd (other.0 (only-one me (author_of e)
    (subst (λ ns. IsListed ns (author_of e)) one own.0)))

module _ {D : Type 0} (seen : D → Option (List ℕ)) (may_leave : D → List ℕ → Type 0)
    (faults : D → ℕ) (names : List NameShards) (limit : ℕ) (k : Known CellAbout LogEntry)
    (knowing : IsKnowing names limit k) (numbers : k.numbers ≡ 1 ∷ [])
    (wide : IsWide k (cells_in names + 1))
    (w : Watched about_in log_of_cell author_of law_of tells_of (IsSettled seen may_leave) is_closed
    (faults_of faults) k) where
  -- its number is the only one
  me : k.number ≡ 1
  me = only-one 1 k.number (subst (λ ns. IsListed ns k.number) numbers knowing.listed)

  -- what it has seen is its own
  own : (cell : ℕ) → All (λ entry. author_of entry ≡ k.number) (get_or k.seen cell [])
  own cell =
      All-weaker (λ entry. IsListed k.numbers (author_of entry))
      (λ entry. author_of entry ≡ k.number)
      (λ entry listed. only-one 1 (author_of entry)
      (subst (λ ns. IsListed ns (author_of entry)) numbers listed) ∙ sym me)
      (get_or k.seen cell []) (knowing.signed cell)

  -- nothing follows it
  whole : (cell : ℕ) → at w.kept.histories cell ≡ at k.seen cell
  whole cell =
      let behind = w.seen cell in
      let grown = w.kept.grown cell in
      let P : LogEntry → Type 0 = λ entry. IsListed k.numbers (author_of entry) in
      let none : at k.start cell ≡ [] =
      ap (λ l. get_or l cell []) knowing.begun ∙ none-at (cells_in names + 1) cell in
      let all : grown.0 ≡ at w.kept.histories cell =
      sym (grown.1 ∙ ap (λ l. l ++ grown.0) none) in
      let listed : All P (at k.seen cell ++ behind.0) =
      subst (All P) (all ∙ behind.1)
      (All-weaker (λ entry. Contains k.numbers (author_of entry)) P
      (λ entry. listed-of k.numbers (author_of entry)) grown.0 grown.2) in
      let nothing : behind.0 ≡ [] =
      lone-nothing k.numbers k.number (at k.seen cell) behind.0
      (numbers ∙ ap (λ n. n ∷ []) (sym me)) listed behind.2 in
      behind.1 ∙ (ap (λ l. at k.seen cell ++ l) nothing ∙ append-nil (at k.seen cell))

  -- so the law holds of it
  lawful : IsLawful names k.seen
  lawful =
      let counted : length k.start ≡ cells_in names + 1 =
      ap length knowing.begun ∙ length-replicate (cells_in names + 1) [] in
      let long : length w.kept.histories ≡ length k.seen =
      sym w.kept.counted ∙ (counted ∙ sym wide.seen) in
      let told : names_told k.about ≡ names = ap names_told knowing.about ∙ names_of names limit in
      subst (IsLawful names) (same-logs w.kept.histories k.seen long whole)
      (subst (λ ns. IsLawful ns w.kept.histories) told w.kept.lawful)

  -- and it is with its record
  pub lone-all : (marks : List CutMark) (steps : List OwnMark)
      → IsAllOwn names (writer_in k marks steps)
  lone-all marks steps = record {
    number = me;
    own = λ had. subst (λ n. IsAlone n had k.seen) me
        (λ cell. all_drop (λ entry. author_of entry ≡ k.number) (get_or had cell 0)
        (get_or k.seen cell [])
        (each_of (λ entry. author_of entry ≡ k.number) (get_or k.seen cell []) (own cell)));
    lawful = lawful;
  }
