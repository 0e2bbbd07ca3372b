-- A look keeps the rule.
use Rattle.std.proofs.Common.{ℕ, ◌+◌, ◌*◌, ◌≡◌, ◌≢◌, ◌<◌, Bool, List, [], length, get_or, set, sym, refl, ap, ◌∙◌, subst, arith, Option, Some, get_or-set_other, get_or-set_same}
use mathlib.Core.Logic.{dite}
use mathlib.Core.Option.{none, some}
use native.Mathlib.Decide.{ℕ_discrete}
use Rattle.std.proofs.lemmas.List.{set-get_or}
use Rattle.atomic_table.specs.Table.{Allows, Me, State, keeps, step}
use Rattle.turn_table.specs.declared.knowledge.Known.{Known}
use Rattle.turn_table.specs.declared.knowledge.View.{View}
use Rattle.std.specs.Prelude.{Contains}
use Rattle.turn_table.specs.Histories.{at, Adds, ArePrefixes, GrewBy}
use Rattle.turn_table.specs.Knowledge.{asof, hand, lone, looked, IsWide}
use Rattle.turn_table.specs.Rule.{Kept}
use Rattle.turn_table.specs.Steps.{AddsOthers, Glimpse, Sees}
use Rattle.turn_table.proofs.HistoryLemmas.{grown-seen, prefixes-on, prefixes-seen, prefixes-self, prefixes_of_grown}
use Rattle.turn_table.proofs.KnowledgeLemmas.{same_faults, same_pass, wide-looked}
use Rattle.turn_table.proofs.MoveLemmas.{cell_stays, moves}

-- a cell's length word tells which cell it is
pub same_length : (c d : ℕ) → 3 * c + 2 ≡ 3 * d + 2 → c ≡ d
same_length c d e = omega arith

module _ {A E : Type 0} (k : Known A E) (c : ℕ) (whole : List E) (count : ℕ)
    (wide : IsWide k count) (low : c < count) where
  -- what was seen at the look, as the pass keeps it
  pub asof-here : asof (looked c whole k) c ≡ (looked c whole k).seen
  asof-here = let w = wide.asof in
      get_or-set_same k.asof c (set k.seen c whole) [] (omega arith)

  pub asof-else : (e : ℕ) → e ≢ c → asof (looked c whole k) e ≡ asof k e
  asof-else e other = get_or-set_other k.asof c e (set k.seen c whole) [] other

  -- a look at another cell came before
  pub looks-else : (e : ℕ) → e ≢ c → 0 < get_or (looked c whole k).looks e 0
      → 0 < get_or k.looks e 0
  looks-else e other pos = subst (λ (n : ℕ). 0 < n)
      (get_or-set_other k.looks c e (get_or k.looks c 0 + 1) 0 other) pos

  -- what is true of the seen lists of this look and of each earlier one is true of each look
  pub each_look : (P : ℕ → List (List E) → Type 0) → P c (looked c whole k).seen
      → ((e : ℕ) → 0 < get_or k.looks e 0 → P e (asof k e))
      → (e : ℕ) → 0 < get_or (looked c whole k).looks e 0 → P e (asof (looked c whole k) e)
  each_look P now before e pos = dite (ℕ_discrete e c)
      (λ q. subst (λ (z : ℕ × List (List E)). P z.0 z.1)
      (λ n. (sym q n, (sym asof-here ∙ ap (asof (looked c whole k)) (sym q)) n)) now)
      (λ other. subst (P e) (sym (asof-else e other)) (before e (looks-else e other pos)))

  pub seen-here : at (looked c whole k).seen c ≡ whole
  seen-here = let w = wide.seen in get_or-set_same k.seen c whole [] (omega arith)

module _ {C A E : Type 0} (about : C → A) (history : C → List E) (writer : E → ℕ)
    (law : List A → List (List E) → Type 0)
    (tells : List A → ℕ → List (List E) → List (List E) → Type 0) (settled : C → Type 0)
    (is_shut : C → Bool) (fault_count : C → ℕ)
    (abouts : List A) (start : List (List E)) (numbers : List ℕ) where
  abbrev K : Type 0
  K = Known A E

  abbrev St : Type 0
  St = State (Option C) (View A E)

  abbrev Rule : St → Type 0
  Rule = Kept about history writer law tells settled is_shut fault_count abouts start numbers

  -- what a state of the pass's table shows to it
  glimpse_of : (k : K) (s : St) (r : Rule s) → k.about ≡ abouts → k.start ≡ start
      → k.numbers ≡ numbers → (c : ℕ) → ArePrefixes k.seen r.histories
      → at k.seen c ≡ at r.histories c
      → ((e : ℕ) → 0 < get_or k.looks e 0 → tells abouts e (asof k e) r.histories)
      → ((e : ℕ) → 0 < get_or k.looks e 0 → ArePrefixes (asof k e) k.seen)
      → Glimpse about history writer law tells settled is_shut fault_count c k
  glimpse_of k s r about_is start_is numbers_are c seen whole told since =
      subst (λ (z : List A × (List (List E) × List ℕ)).
      (q : Kept about history writer law tells settled is_shut fault_count z.0 z.1.0 z.1.1 s)
      → ArePrefixes k.seen q.histories → at k.seen c ≡ at q.histories c
      → ((e : ℕ) → 0 < get_or k.looks e 0 → tells z.0 e (asof k e) q.histories)
      → Glimpse about history writer law tells settled is_shut fault_count c k)
      (λ n. (about_is n, (start_is n, numbers_are n)))
      (λ q within is told. record {
        state = s;
        kept = q;
        seen = within;
        whole = is;
        told = told;
        since = since;
      }) r seen whole told

  module _ (slots id : ℕ) (me : Me (Option C) (View A E)) (f : List ℕ) (k : K)
      (is : me.0 ≡ lone f k) (c : ℕ)
      (room : c < slots) (entries : List E) (held : hand k c ≡ Some entries)
      (looks_law : (b : List A) (histories seen : List (List E)) (d : ℕ) → law b histories
      → ArePrefixes seen histories → d < length histories → at seen d ≡ at histories d
      → tells b d seen histories) where
    pub sees : Allows Rule slots id me (3 * c + 2) (λ n. n)
        (Sees about history writer law tells settled is_shut fault_count (step slots (3 * c + 2) 0
        0 none) me)
    sees s r deep at_id fits =
        let i : ℕ = 3 * c + 2 in let here = at_id ∙ ap some is in let d = r.deep in
        let low : c < length r.histories = omega arith in
        let cell = r.each_cell c low in let mine = r.each_pass id 0 (lone f k) k here refl in
        let whole : at r.histories c ≡ entries = (mine.hands c entries held).3 in
        let k' : K = looked c entries k in let w = mine.wide.seen in
        let Others : E → Type 0 = λ entry. writer entry ≢ k.number in
        let seen : GrewBy Others k'.seen r.histories = grown-seen Others k.seen r.histories
        r.histories c entries (omega arith) whole (λ _ _. refl) mine.seen in
        let within = prefixes_of_grown Others k'.seen r.histories seen in
        let new = mine.seen c in
        let behind = r.grown c in
        let adds : AddsOthers writer k c entries = (
          (new.0, sym whole ∙ new.1, new.2),
          subst (λ (z : List (List E) × List ℕ).
              Adds (λ entry. Contains z.1 (writer entry)) (at z.0 c) entries)
              (λ n. (sym mine.start_is n, sym mine.numbers_are n))
              (behind.0, sym whole ∙ behind.1, behind.2),
        ) in
        let seen_is : at k'.seen c ≡ at r.histories c =
        seen-here k c entries (length r.histories) mine.wide low ∙ sym whole in
        let grown : ArePrefixes k.seen k'.seen =
        prefixes-seen k.seen c entries (omega arith) (adds.0.0, adds.0.1) in
        let told = each_look k c entries (length r.histories) mine.wide low
        (λ e seen. tells abouts e seen r.histories)
        (looks_law abouts r.histories k'.seen c r.lawful within low seen_is) mine.told in
        let since = each_look k c entries (length r.histories) mine.wide low
        (λ e seen. ArePrefixes seen k'.seen) (prefixes-self k'.seen)
        (λ e pos. prefixes-on (asof k e) k.seen k'.seen (mine.since e pos) grown) in
        let glimpse = glimpse_of k' s r mine.about_is mine.start_is mine.numbers_are c within
        seen_is told since in
        let after : List ℕ → K → Me (Option C) (View A E) = λ g x. (lone g x, me.1) in
        let T : ℕ × (K × (List E × List ℕ)) → Type 0 = λ z.
        (after f k' ≡ after z.1.1.1 (looked z.0 z.1.1.0 z.1.0))
        × (get_or s.words i 0 ≡ length z.1.1.0) × AddsOthers writer z.1.0 z.0 z.1.1.0
        × Glimpse about history writer law tells settled is_shut fault_count z.0
        (looked z.0 z.1.1.0 z.1.0) in
        let done : T (c, (k, (entries, f))) =
        (refl, cell.long ∙ ap length whole, adds, glimpse) in (
          lone f k',
          keeps,
          tt,
          subst (λ ws. Rule record {
            words = ws;
            homes = s.homes;
            views = set s.views id (lone f k');
          })
              (sym (set-get_or s.words i 0))
              (moves about history writer law tells settled is_shut fault_count abouts start
              numbers s r id f f k k' s.words
              s.homes r.histories r.holder here refl refl refl refl
              (λ e l. cell_stays about history settled is_shut fault_count abouts r.histories
              r.histories s.words s.words s.homes s.homes s.views id f f k k' e here refl refl refl
              refl refl refl (r.each_cell e l))
              (λ j g x apart ok. ok)
              record {
                about_is = mine.about_is;
                start_is = mine.start_is;
                numbers_are = mine.numbers_are;
                listed = mine.listed;
                mine = mine.mine;
                seen = seen;
                hands = mine.hands;
                noted = mine.noted;
                told = told;
                since = since;
                wide = wide-looked k c (length r.histories) mine.wide entries;
              }
              r.lawful r.grown),
          λ e g x l w v z.
              let q = same_length c e w in let p = same_pass f g k x (sym is ∙ v) in
              let fs = same_faults f g k x (sym is ∙ v) in
              let o : entries ≡ l = cc (held, z, p, q) in
              subst T (λ n. (q n, (p n, (o n, fs n)))) done,
        )
