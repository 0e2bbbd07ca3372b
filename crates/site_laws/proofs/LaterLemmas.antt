-- What a writer keeps of its looks is kept from each moment to each later one.
use Rattle.std.proofs.Common.{◌≡◌, ◌≢◌, ℕ, ◌+◌, ◌<◌, ◌≤◌, List, [], ◌∷◌, ◌++◌, length, get_or, set, slice_index, refl, sym, ap, subst, ◌∙◌, arith, inl, inr, append-nil, append_assoc}
use Rattle.std.specs.List.{AllByRecursion}
use Rattle.std.proofs.lemmas.List.{get_or-set_same, get_or-set_other}
use Rattle.std.proofs.lemmas.Bool.{cases_lt, cases_eq}
use Rattle.tuple_values.specs.declared.names.NameShards.{NameShards}
use Rattle.shard_versions.specs.Histories.{current}
use Rattle.topic_book.specs.Cells.{cells_in}
use Rattle.once_core.specs.Cells.{history_at, shard_history}
use Rattle.exchange_rules.specs.Cells.{Log, history_in}
use Rattle.site_laws.specs.Looks.{last_seen, looked_at, upto_of, CoversAt, IsCoveredAt, IsLater, IsLookCovered, IsSentTo, Sight}
use Rattle.site_laws.specs.SiteCells.{histories_in, AreSeenOf}
use Rattle.site_laws.proofs.CellLemmas.{history-append, shard-at}
use Rattle.site_laws.proofs.CoverLemmas.{sent-here, sent-later}

-- a log that goes on covers what it covered
covers-on : (names : List NameShards) (seen : List Log) (source target : ℕ) (log more : Log)
    → CoversAt names seen source target log → CoversAt names seen source target (log ++ more)
covers-on names seen source target log more f key b shard dest there from to =
    let c = f key b shard dest there from to in
    let low = slice_index b.init shard in
    let high = upto_of names seen key shard in
    let h = history_at (histories_in names seen) source in
    record {
      bounded = c.bounded;
      sent = subst (λ g. AllByRecursion (IsSentTo names b dest there g low high) (current h))
          (sym (history-append log more))
          (sent-later names b dest there h (history_in log) (history_in more) low high c.sent);
    }

-- a moment is no earlier than itself
pub later-self : (names : List NameShards) (k : Sight) → IsLater names k k
later-self names k = record {
  counted = λ c. omega arith;
  grown = λ c. ([], sym (append-nil (get_or k.seen c [])));
  still = λ s e. refl;
  covers = λ s d e p lt. absurd (omega arith);
}

-- nor is one that is no earlier than another that isn't
pub later-on : (names : List NameShards) (k m n : Sight) → IsLater names k m → IsLater names m n
    → IsLater names k n
later-on names k m n f g = record {
  counted = λ c. let a = f.counted c in let b = g.counted c in omega (arith, a, b);
  grown = λ c. (
    (f.grown c).0 ++ (g.grown c).0,
    (g.grown c).1 ∙ (ap (λ l. l ++ (g.grown c).0) (f.grown c).1
        ∙ append_assoc (get_or k.seen c []) (f.grown c).0 (g.grown c).0),
  );
  still = λ s e.
      let a = f.counted s in
      let b = g.counted s in
      g.still s (omega (arith, a, b, e)) ∙ f.still s (omega (arith, a, b, e));
  covers = λ s d e p lt.
      let a = f.counted s in
      let b = g.counted s in
      let first : slice_index m.looks s ≡ slice_index k.looks s = omega (arith, a, b, e) in
      let last : slice_index n.looks s ≡ slice_index m.looks s = omega (arith, a, b, e) in
      elim (cases_lt (slice_index m.looks d) (slice_index n.looks d)) [
        | inl more ↦ g.covers s d last (omega (arith, first, p)) more
        | inr none ↦
            subst (λ seen. CoversAt names seen s d (get_or n.seen d [])) (sym (g.still s last))
            (subst (CoversAt names (last_seen m s) s d) (sym (g.grown d).1)
            (covers-on names (last_seen m s) s d (get_or m.seen d []) (g.grown d).0
            (f.covers s d first p (omega (arith, lt, none)))))
      ];
}

-- where nothing was looked at and logs grew
pub later-grown : (names : List NameShards) (k m : Sight) → AreSeenOf k.seen m.seen
    → m.looks ≡ k.looks → m.asof ≡ k.asof → IsLater names k m
later-grown names k m grown l a = record {
  counted = λ c. let x = ap (λ ls. slice_index ls c) l in omega (arith, x);
  grown = grown;
  still = λ s _. ap (λ x. get_or x s []) a;
  covers = λ s d _ p lt. let x = ap (λ ls. slice_index ls d) l in absurd (omega (arith, x, lt));
}

module _ (names : List NameShards) (k : Sight) (c : ℕ) (h new : Log) (lt : c < length k.looks) where
  abbrev after : Sight
  after = looked_at c h k

  -- the look is counted
  up : slice_index after.looks c ≡ slice_index k.looks c + 1
  up = get_or-set_same k.looks c (slice_index k.looks c + 1) 0 lt

  -- a cell whose looks stayed isn't the one that was looked at
  not_here : (s : ℕ) → slice_index after.looks s ≡ slice_index k.looks s → s ≢ c
  not_here s e is =
      let a = ap (λ x. slice_index after.looks x) is ∙ up in
      let b = ap (λ x. slice_index k.looks x) is in omega (arith, a, b, e)

  -- one whose looks rose is
  here_only : (d : ℕ) → slice_index k.looks d < slice_index after.looks d → d ≡ c
  here_only d rose = elim (cases_eq d c) [
    | inl e ↦ e
    | inr n ↦
        let a = get_or-set_other k.looks c d (slice_index k.looks c + 1) 0 n in
        absurd (omega (arith, a, rose))
  ]

  -- what a look told is seen at the cell that was just looked at
  look-covers : (logs : List Log) → get_or after.seen c [] ≡ get_or logs c []
      → ((d : ℕ) → 0 < slice_index after.looks d
      → IsLookCovered names d (last_seen after d) logs)
      → (s d : ℕ) → 0 < slice_index after.looks s → d ≡ c
      → CoversAt names (last_seen after s) s d (get_or after.seen d [])
  look-covers logs here told s d p d_is key b shard dest there from to =
      let seen = last_seen after s in
      let low = slice_index b.init shard in
      let high = upto_of names seen key shard in
      let covered = told s p key b shard from in
      let source = history_at (histories_in names seen) s in
      let hs = histories_in names logs in
      let sent = sent-here names b dest hs there source low high (covered.sent dest to.to) in
      let log_is : shard_history names hs dest there ≡ history_in (get_or after.seen d []) =
      ap (history_at hs) to.here ∙ (shard-at (cells_in names) logs d to.in_range
      ∙ ap history_in (ap (λ x. get_or logs x []) d_is
      ∙ (sym here ∙ ap (λ x. get_or after.seen x []) (sym d_is)))) in
      record {
        bounded = covered.bounded;
        sent = subst (λ g. AllByRecursion (IsSentTo names b dest there g low high)
            (current source)) log_is sent;
      }

  -- a moment after a look, of which these logs tell
  pub later-look : (logs : List Log) → c < length k.seen → get_or k.seen c [] ++ new ≡ h
      → get_or after.seen c [] ≡ get_or logs c []
      → ((d : ℕ) → 0 < slice_index after.looks d
      → IsLookCovered names d (last_seen after d) logs)
      → IsLater names k after
  later-look logs in_range whole here told = record {
    counted = λ d. elim (cases_eq d c) [
      | inl e ↦
          let a = ap (λ x. slice_index after.looks x) e ∙ up in
          let b = ap (λ x. slice_index k.looks x) e in omega (arith, a, b)
      | inr n ↦
          let a = get_or-set_other k.looks c d (slice_index k.looks c + 1) 0 n in
          omega (arith, a)
    ];
    grown = λ d. elim (cases_eq d c) [
      | inl e ↦ (
        new,
        subst (λ x. get_or after.seen x [] ≡ get_or k.seen x [] ++ new) (sym e)
            (get_or-set_same k.seen c h [] in_range ∙ sym whole),
      )
      | inr n ↦ (
        [],
        get_or-set_other k.seen c d h [] n ∙ sym (append-nil (get_or k.seen d [])),
      )
    ];
    still = λ s e. get_or-set_other k.asof c s (set k.seen c h) [] (not_here s e);
    covers = λ s d e p rose.
        look-covers logs here told s d (omega (arith, e, p)) (here_only d rose);
  }

-- the same where the collections are given twice
pub later-next : (names again : List NameShards) (k m n : Sight) → again ≡ names
    → IsLater names k m → IsLater again m n → IsLater names k n
later-next names again k m n e f g =
    later-on names k m n f (subst (λ x. IsLater x m n) e g)
