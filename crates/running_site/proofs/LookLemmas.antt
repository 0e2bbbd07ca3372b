-- A pass that took a turn and looked in it.
use Rattle.std.proofs.Common.{◌≡◌, ◌≢◌, ℕ, ◌<◌, false, List, [], ◌∷◌, ◌++◌, length, get_or, set, slice_index, refl, sym, ap, ◌∙◌, subst, arith, length-set}
use Rattle.std.specs.Prelude.{All, IfSome, Option, Some, None, slice_get}
use Rattle.std.proofs.lemmas.List.{get_or-set_other}
use Rattle.tuple_values.specs.declared.names.NameShards.{NameShards}
use Rattle.shard_versions.specs.declared.cut.CutMark.{CutMark}
use Rattle.shard_versions.specs.declared.cut.OwnMark.{OwnMark}
use Rattle.topic_book.specs.Cells.{cells_in}
use Rattle.exchange_rules.specs.Cells.{Log, author_of, book_in}
use Rattle.exchange_rules.specs.Primitives.{barred_at, LooksAt}
use Rattle.exchange_rules.specs.declared.log_entry.LogEntry.{LogEntry}
use Rattle.site_laws.specs.Looks.{last_seen, looked_at, IsLater, IsLookCovered, Sight}
use Rattle.site_laws.specs.Sealings.{names_told}
use Rattle.site_laws.specs.SiteCells.{IsLawful}
use Rattle.site_laws.specs.declared.cell_about.CellAbout.{CellAbout}
use Rattle.site_laws.proofs.LaterLemmas.{later-look, later-self}
use Rattle.turn_table.specs.Calls.{fault_word, turn_about, turn_faults, turn_history}
use Rattle.turn_table.specs.Histories.{at}
use Rattle.turn_table.specs.Knowledge.{barred, hand, looked, took, waited}
use Rattle.turn_table.specs.Steps.{AddsOthers, Glimpse}
use Rattle.turn_table.specs.declared.knowledge.Known.{Known}
use Rattle.turn_table.specs.declared.turn.Turn.{Turn}
use Rattle.site_cells.specs.Cells.{no_logs}
use Rattle.logged_cells.specs.Cells.{about_in, faults_of, is_closed, log_of_cell, IsSettled}
use Rattle.site_cells.specs.Values.{law_of, tells_of}
use Rattle.logged_cells.specs.declared.logged_cell.LoggedCell.{LoggedCell}
use Rattle.running_site.specs.Passes.{sight_in, writer_in, AreSeenFit, AreSeenSigned, IsListed, TablePass}
use Rattle.running_site.specs.Visits.{AreCounted, IsNoted, IsSound, IsTurn, IsVisit}
use Rattle.running_site.proofs.FitLemmas.{lawful-fit, set-fit}
use Rattle.running_site.proofs.SealLemmas.{if-there}
use Rattle.running_site.proofs.KnownLemmas.{are-were, each_of, names_of, one_more_is}
use Rattle.running_site.proofs.SignedLemmas.{look-signed, set-signed}
use Rattle.running_site.proofs.TopicLemmas.{counted-fit}

module _ {D : Type 0} where
  -- the count of faults of the turn that is held
  pub noted-as : (faults : D → ℕ) (p : TablePass D) (o : Option (Turn (LoggedCell D)))
      (t : Turn (LoggedCell D)) → o ≡ Some t
      → fault_word p t.cell ≡ turn_faults (faults_of faults) t → IsNoted faults p o
  noted-as faults p o t is noted u e =
      let same : t ≡ u = cc in
      subst (λ (x : Turn (LoggedCell D)). fault_word p x.cell ≡ turn_faults (faults_of faults) x) same
      noted

  -- the value of the turn that is held waits for no log
  pub sound-as : (seen : D → Option (List ℕ)) (may_leave : D → List ℕ → Type 0)
      (o : Option (Turn (LoggedCell D))) (t : Turn (LoggedCell D)) → o ≡ Some t
      → IfSome t.value (λ cell. IsSettled seen may_leave cell × (is_closed cell ≡ false))
      → IsSound seen may_leave o
  sound-as seen may_leave o t is sound u e y there =
      let same : t ≡ u = cc in
      let here : t.value ≡ Some y = ap (λ (x : Turn (LoggedCell D)). x.value) same ∙ there in
      subst (λ x. IfSome x (λ cell. IsSettled seen may_leave cell × (is_closed cell ≡ false))) here
      sound

  -- and back
  pub sound-here : (seen : D → Option (List ℕ)) (may_leave : D → List ℕ → Type 0)
      (o : Option (Turn (LoggedCell D))) (t : Turn (LoggedCell D)) → o ≡ Some t
      → IsSound seen may_leave o
      → IfSome t.value (λ cell. IsSettled seen may_leave cell × (is_closed cell ≡ false))
  sound-here seen may_leave o t is sound =
      if-there (λ cell. IsSettled seen may_leave cell × (is_closed cell ≡ false)) t.value
      (λ y there. sound t is y there)

-- a pass that found the cell shut
module _ (k k2 : Known CellAbout LogEntry) (cell count : ℕ)
    (is : k2 ≡ barred cell (waited cell count k)) where
  -- it has no turn
  pub barred-visit : {D : Type 0} (names : List NameShards) (limit : ℕ)
      → IsVisit {D = D} names limit k None
      → IsVisit {D = D} names limit k2 None
  barred-visit {D = D} names limit v = subst (λ x. IsVisit {D = D} names limit x None) (sym is) (record {
    knowing = record {
      about = v.knowing.about;
      begun = v.knowing.begun;
      listed = v.knowing.listed;
      signed = v.knowing.signed;
      since = v.knowing.since;
      fit = v.knowing.fit;
    };
    idle = v.idle;
    holding = λ t e. absurd (cc);
  })

  -- it is a writer that was barred
  pub barred-writer : (marks : List CutMark) (own : List OwnMark) → cell < length k.barred
      → writer_in k2 marks own ≡ barred_at (writer_in k marks own) cell
  barred-writer marks own lt =
      ap (λ x. writer_in x marks own) is
      ∙ (λ i. record {
        me = k.number;
        seen = k.seen;
        marks = marks;
        own = own;
        looks = k.looks;
        faults = record { barred = one_more_is cell k.barred lt i; broke = k.broke };
      })

  -- and this moment is a later one
  pub barred-later : (names : List NameShards) → IsLater names (sight_in k) (sight_in k2)
  barred-later names =
      let same : sight_in k2 ≡ sight_in k = ap sight_in is in
      subst (IsLater names (sight_in k)) (sym same) (later-self names (sight_in k))

module _ {D : Type 0} (k k1 k2 : Known CellAbout LogEntry) (cell count : ℕ) (t : Turn (LoggedCell D))
    (here : t.cell ≡ cell)
    (first : k1 ≡ took cell (turn_history log_of_cell t) (waited cell count k))
    (second : k2 ≡ looked t.cell (turn_history log_of_cell t) k1) where
  abbrev h : Log
  h = turn_history log_of_cell t

  -- what the pass knows then
  abbrev after : Known CellAbout LogEntry
  after = looked cell h (took cell h (waited cell count k))

  known-is : k2 ≡ after
  known-is = second ∙ (λ i. looked (here i) h (first i))

  -- what came since the pass had seen the cell
  came : (adds : AddsOthers author_of k1 t.cell h) → h ≡ at k.seen cell ++ adds.0.0
  came adds = adds.0.1 ∙ (λ i. at (first i).seen (here i) ++ adds.0.0)

  -- a pass that looked is a writer that looked
  pub looked-writer : (upto : ℕ) (marks more : List CutMark) (own : List OwnMark)
      → cell < length k.looks → AddsOthers author_of k1 t.cell h → upto ≡ length h
      → more ≡ marks ++ record { cell = cell; upto = upto } ∷ []
      → LooksAt (writer_in k marks own) (writer_in k2 more own) cell
  looked-writer upto marks more own lt adds long marked =
      let new : Log = adds.0.0 in
      let whole = came adds in
      let others = subst (λ (x : Known CellAbout LogEntry).
      All (λ e. author_of e ≢ x.number) new) first adds.0.2 in
      let seen_upto : upto ≡ length (at k.seen cell ++ new) = long ∙ ap length whole in
      let marked' : more
      ≡ marks ++ record { cell = cell; upto = length (at k.seen cell ++ new) } ∷ [] =
      marked ∙ ap (λ u. marks ++ record { cell = cell; upto = u } ∷ []) seen_upto in
      record {
        more = new;
        others = each_of (λ n. author_of n ≢ k.number) new others;
        is = (λ i. writer_in (known-is i) (marked' i) own)
            ∙ (λ i. record {
              me = k.number;
              seen = set k.seen cell (whole i);
              marks = marks
                  ++ record { cell = cell; upto = length (at k.seen cell ++ new) } ∷ [];
              own = own;
              looks = one_more_is cell k.looks lt i;
              faults = record { barred = k.barred; broke = k.broke };
            });
      }

  module _ (seen : D → Option (List ℕ)) (may_leave : D → List ℕ → Type 0) (faults : D → ℕ)
      (names : List NameShards) (limit : ℕ) (v : IsVisit {D = D} names limit k None)
      (g : Glimpse about_in log_of_cell author_of law_of tells_of (IsSettled seen may_leave)
      is_closed (faults_of faults) t.cell k2) where
    about-is : k2.about ≡ k.about
    about-is = ap (λ (x : Known CellAbout LogEntry). x.about) known-is

    about-back : k.about ≡ k2.about
    about-back = sym about-is

    told-names : names_told k2.about ≡ names
    told-names = ap names_told (about-is ∙ v.knowing.about) ∙ names_of names limit

    -- the law holds of the histories at the look
    lawful : IsLawful names g.kept.histories
    lawful = subst (λ ns. IsLawful ns g.kept.histories) told-names g.kept.lawful

    -- the book that was seen there is on the site's collections
    topics : at k2.seen t.cell ≡ h → t.cell ≡ cells_in names
        → AreCounted names (book_in h)
    topics seen book =
        let same : get_or g.kept.histories (cells_in names) [] ≡ h =
        ap (λ c. get_or g.kept.histories c []) (sym book) ∙ (sym g.whole ∙ seen) in
        subst (λ l. AreCounted names (book_in l)) same
        (counted-fit names (book_in (get_or g.kept.histories (cells_in names) []))
        lawful.law.fit_book.fit)

    -- it has just this turn
    pub looked-visit : cell < length k.seen → AddsOthers author_of k1 t.cell h → hand k2 t.cell ≡ Some h → at k2.seen t.cell ≡ h
        → turn_about about_in t ≡ slice_get k.about cell → IsVisit names limit k2 (Some t)
    looked-visit lt adds holds seen about =
        let free = v.idle refl in
        let long : length k2.seen ≡ length k.seen =
        ap (λ (x : Known CellAbout LogEntry). length x.seen) known-is
        ∙ length-set k.seen cell h in
        let began : k1.start ≡ no_logs names = ap (λ (x : Known CellAbout LogEntry). x.start) first
        ∙ v.knowing.begun in
        let came_signed : All (λ entry. IsListed k.numbers (author_of entry)) h =
        subst (λ (x : Known CellAbout LogEntry).
        All (λ entry. IsListed x.numbers (author_of entry)) h) first
        (look-signed names k1 t.cell h began adds) in
        let turn : IsTurn names k2 t = record {
          within = omega (arith, long, lt, here);
          in_hand = holds;
          others = λ c apart.
              ap (λ (x : Known CellAbout LogEntry). hand x c) known-is
              ∙ (get_or-set_other k.hand cell c (Some h) None (λ e. apart (e ∙ sym here))
              ∙ free c);
          whole = seen;
          suits = about ∙ (λ i. slice_get (about-back i) (sym here i));
          topics = topics seen;
        } in
        record {
          knowing = record {
            about = about-is ∙ v.knowing.about;
            begun = ap (λ (x : Known CellAbout LogEntry). x.start) known-is ∙ v.knowing.begun;
            listed = subst (λ (x : Known CellAbout LogEntry). IsListed x.numbers x.number)
                (sym known-is) v.knowing.listed;
            signed = subst (λ (x : Known CellAbout LogEntry). AreSeenSigned x.numbers x.seen)
                (sym known-is)
                (set-signed k.numbers k.seen cell h lt v.knowing.signed came_signed);
            since = λ c looked.
                are-were (last_seen (sight_in k2) c) k2.seen (g.since c looked);
            fit = subst (λ (x : Known CellAbout LogEntry). AreSeenFit names x.seen)
                (sym known-is) (set-fit names k.seen cell h lt v.knowing.fit
                (lawful-fit names g.kept.histories cell h lawful
                (sym seen ∙ (g.whole ∙ ap (λ c. get_or g.kept.histories c []) here))));
          };
          idle = λ e. absurd (cc);
          holding = λ u e. let same : t ≡ u = cc in subst (IsTurn names k2) same turn;
        }

    -- and this moment is a later one
    pub looked-later : cell < length k.looks → cell < length k.seen
        → AddsOthers author_of k1 t.cell h → IsLater names (sight_in k) (sight_in k2)
    looked-later lt within adds =
        let new : Log = adds.0.0 in
        let sight : sight_in k2 ≡ looked_at cell h (sight_in k) = ap sight_in known-is in
        let seen : get_or k2.seen cell [] ≡ get_or g.kept.histories cell [] =
        subst (λ c. get_or k2.seen c [] ≡ get_or g.kept.histories c []) here g.whole in
        let told = subst (λ ns. (d : ℕ) → 0 < slice_index k2.looks d
        → IsLookCovered ns d (last_seen (sight_in k2) d) g.kept.histories) told-names g.told in
        let told' = subst (λ (x : Sight). (d : ℕ) → 0 < slice_index x.looks d
        → IsLookCovered names d (last_seen x d) g.kept.histories) sight told in
        subst (IsLater names (sight_in k)) (sym sight)
        (later-look names (sight_in k) cell h new lt g.kept.histories within (sym (came adds))
        (subst (λ (x : Sight). get_or x.seen cell [] ≡ get_or g.kept.histories cell []) sight seen)
        told')
