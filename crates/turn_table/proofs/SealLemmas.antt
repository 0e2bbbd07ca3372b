-- A seal keeps the rule.
use Rattle.std.proofs.Common.{ℕ, ◌+◌, ◌*◌, ◌%◌, ◌^◌, ◌≡◌, ◌≢◌, ◌<◌, Bool, List, [], ◌∷◌, ◌++◌, length, get_or, set, sym, refl, ap, ◌∙◌, subst, inl, inr, arith, Option, Some, None, length-append, length-set, get_or-set_other, get_or-set_same}
use Rattle.std.specs.Prelude.{All, Contains}
use Rattle.std.proofs.lemmas.List.Elements.{All-weaker}
use mathlib.Core.Logic.{dite}
use mathlib.Core.Option.{none, some}
use native.Mathlib.Decide.{ℕ_discrete}
use lib.ListN.{get_elem?}
use Rattle.atomic_table.specs.Table.{Allows, Me, State, keeps, rest, step}
use Rattle.turn_table.specs.declared.knowledge.Known.{Known}
use Rattle.turn_table.specs.declared.knowledge.View.{View}
use Rattle.turn_table.specs.Histories.{at, with_more, ArePrefixes, GrewBy}
use Rattle.turn_table.specs.Knowledge.{asof, hand, lone, sealed, IsWide}
use Rattle.turn_table.specs.Rule.{IsCell, IsPass, Kept}
use Rattle.turn_table.specs.Steps.{Seals}
use Rattle.turn_table.proofs.HistoryLemmas.{at-with_more, at-with_more_other, grown-on, grown-seen, grown-with_more, prefixes-on, prefixes-seen, prefixes_of_grown}
use Rattle.turn_table.proofs.KnowledgeLemmas.{same_faults, same_pass, wide-sealed}
use Rattle.turn_table.proofs.LookLemmas.{same_length}
use Rattle.turn_table.proofs.MoveLemmas.{cell_stays, holds_now, moves}

module _ {C A E : Type 0} (about : C → A) (history : C → List E) (writer : E → ℕ)
    (law : List A → List (List E) → Type 0)
    (tells : List A → ℕ → List (List E) → List (List E) → Type 0) (settled : C → Type 0)
    (is_shut : C → Bool) (fault_count : C → ℕ)
    (abouts : List A) (start : List (List E)) (numbers : List ℕ) where
  abbrev K : Type 0
  K = Known A E

  abbrev St : Type 0
  St = State (Option C) (View A E)

  abbrev Rule : St → Type 0
  Rule = Kept about history writer law tells settled is_shut fault_count abouts start numbers

  abbrev front : C → List (ℕ × Option C) → C
  front d [] = d
  front d (x ∷ xs) = elim (x.1) [ Some y ↦ y | None ↦ d ]

  module _ (slots id : ℕ) (me : Me (Option C) (View A E)) (f : List ℕ) (k : K)
      (is : me.0 ≡ lone f k) (c : ℕ)
      (room : c < slots) (old : List E) (held : hand k c ≡ Some old) (y : C) (xs : List E)
      (more : ℕ) (long_is : length xs ≡ more) (fits_in : length old + more < 2 ^ 64)
      (carried : me.1 ≡ (c, Some y) ∷ rest me.1) (y_is : history y ≡ old ++ xs)
      (by_me : All (λ entry. writer entry ≡ k.number) xs) (has_looked : at k.seen c ≡ old)
      (keeps_law : (histories : List (List E)) → law k.about histories
      → ArePrefixes k.seen histories → c < length histories
      → at k.seen c ≡ at histories c → law k.about (with_more histories c xs))
      (lasts_law : (b : List A) (d : ℕ) (seen histories later : List (List E))
      → tells b d seen histories → ArePrefixes histories later → law b later
      → tells b d seen later) where
    module _ (s : St) (r : Rule s) (here : get_elem? s.views id ≡ some (lone f k))
        (low : c < length r.histories) (lawful : law abouts (with_more r.histories c xs)) where
      abbrev later : List (List E)
      later = with_more r.histories c xs

      abbrev n' : ℕ
      n' = (get_or s.words (3 * c + 2) 0 + more) % 2 ^ 64

      abbrev words' : List ℕ
      words' = set s.words (3 * c + 2) n'

      long' : length later ≡ length r.histories
      long' = length-set r.histories c (at r.histories c ++ xs)

      grows : (P : E → Type 0) → All P xs → GrewBy P r.histories later
      grows P each = grown-with_more P r.histories c xs low each

      within : ArePrefixes r.histories later
      within = prefixes_of_grown (λ entry. writer entry ≡ k.number) r.histories later
          (grows (λ entry. writer entry ≡ k.number) by_me)

      turn_word : (e : ℕ) → get_or words' (3 * e + 1) 0 ≡ get_or s.words (3 * e + 1) 0
      turn_word e =
          get_or-set_other s.words (3 * c + 2) (3 * e + 1) n' 0 (λ z. omega arith)

      kept_fault : (e : ℕ) → get_or words' (3 * e + 3) 0 ≡ get_or s.words (3 * e + 3) 0
      kept_fault e =
          get_or-set_other s.words (3 * c + 2) (3 * e + 3) n' 0 (λ z. omega arith)

      others : (j : ℕ) (g : List ℕ) (x : K) → x.number ≢ k.number
          → IsPass writer tells abouts start numbers r.histories r.owner r.holder s.words g j x
          → IsPass writer tells abouts start numbers later r.owner r.holder words' g j x
      others j g x apart ok = let was = (r.each_pass id 0 (lone f k) k here refl).hands c old held
          in
          record {
            about_is = ok.about_is;
            start_is = ok.start_is;
            numbers_are = ok.numbers_are;
            listed = ok.listed;
            mine = ok.mine;
            seen = grown-on (λ entry. writer entry ≢ x.number) x.seen r.histories later ok.seen
                (grows (λ entry. writer entry ≢ x.number)
                (All-weaker (λ entry. writer entry ≡ k.number)
                (λ entry. writer entry ≢ x.number) (λ entry e same. apart (sym same ∙ e))
                xs by_me));
            hands = λ e l z. let t = ok.hands e l z in dite (ℕ_discrete e c)
                (λ q. absurd (apart (sym t.1 ∙ (ap r.holder q ∙ was.1))))
                (λ other. (
                  subst (λ (n : ℕ). e < n) (sym long') t.0,
                  t.1,
                  turn_word e ∙ t.2,
                  at-with_more_other r.histories c xs e other ∙ t.3,
                ));
            noted = λ e l z. kept_fault e ∙ ok.noted e l z;
            told = λ e pos.
                lasts_law abouts e (asof x e) r.histories later (ok.told e pos) within lawful;
            since = ok.since;
            wide = subst (IsWide x) (sym long') ok.wide;
          }

      after_seal : Rule record {
        words = words';
        homes = s.homes;
        views = set s.views id (lone f (sealed c (history y) k));
      }
      after_seal =
          let wide = r.wide in let cell = r.each_cell c low in
          let mine = r.each_pass id 0 (lone f k) k here refl in
          let w₀ = mine.wide.seen in let w₁ = mine.wide.hand in
          let was = mine.hands c old held in let whole : at r.histories c ≡ old = was.3 in
          let k' : K = sealed c (history y) k in
          let now : at later c ≡ at r.histories c ++ xs = at-with_more r.histories c xs low in
          let now_y : at later c ≡ history y = now ∙ (ap (λ l. l ++ xs) whole ∙ sym y_is) in
          let held' : hand k' c ≡ Some (history y) =
          get_or-set_same k.hand c (Some (history y)) None (omega arith) in
          let long_now : get_or s.words (3 * c + 2) 0 ≡ length old = cell.long ∙ ap length whole in
          let count : length (at later c) ≡ length old + length xs = ap length now
          ∙ (length-append (at r.histories c) xs ∙ ap (λ l. length l + length xs) whole) in
          let Others : E → Type 0 = λ entry. writer entry ≢ k.number in
          let Mine : E → Type 0 = λ entry. Contains numbers (writer entry) in
          moves about history writer law tells settled is_shut fault_count abouts start numbers s r
          id f f k k' words'
          s.homes later r.holder here refl (length-set s.words (3 * c + 2) n') refl long'
          (λ e l. dite (ℕ_discrete e c)
          (λ (q : e ≡ c). subst (IsCell about history settled is_shut fault_count abouts later
          words' s.homes (set s.views id (lone f k'))) (sym q) record {
            long = get_or-set_same s.words (3 * c + 2) n' 0 (omega arith)
                ∙ (let small : n' ≡ length old + length xs = omega arith in
                small ∙ sym count);
            turn = inr (inl (
              turn_word c ∙ was.2,
              holds_now s.views id f f k k' c (history y) here held',
            ));
          })
          (λ other. cell_stays about history settled is_shut fault_count abouts r.histories later
          s.words words' s.homes s.homes s.views id f f k k' e here
          (get_or-set_other k.hand c e (Some (history y)) None other) (turn_word e)
          (get_or-set_other s.words (3 * c + 2) (3 * e + 2) n' 0
          (λ z. other (omega arith))) (kept_fault e) refl
          (at-with_more_other r.histories c xs e other)
          (r.each_cell e (subst (λ (n : ℕ). e < n) long' l))))
          others
          record {
            about_is = mine.about_is;
            start_is = mine.start_is;
            numbers_are = mine.numbers_are;
            listed = mine.listed;
            mine = mine.mine;
            seen = grown-seen Others k.seen r.histories later c (history y) (omega arith)
                now_y (at-with_more_other r.histories c xs) mine.seen;
            hands = λ e l z. dite (ℕ_discrete e c)
                (λ (q : e ≡ c). let same : history y ≡ l = cc (held', z, q) in (
                  subst (λ (n : ℕ × ℕ). n.0 < n.1) (λ o. (sym q o, sym long' o)) low,
                  ap r.holder q ∙ was.1,
                  ap (λ (n : ℕ). get_or words' (3 * n + 1) 0) q ∙ (turn_word c ∙ was.2),
                  ap (at later) q ∙ (now_y ∙ same),
                ))
                (λ other. let t = mine.hands e l
                (sym (get_or-set_other k.hand c e (Some (history y)) None other) ∙ z) in (
                  subst (λ (n : ℕ). e < n) (sym long') t.0,
                  t.1,
                  turn_word e ∙ t.2,
                  at-with_more_other r.histories c xs e other ∙ t.3,
                ));
            noted = λ e l z. kept_fault e ∙ dite (ℕ_discrete e c)
                (λ (q : e ≡ c). subst (λ (n : ℕ). get_or s.words (3 * n + 3) 0 ≡ get_or f n 0)
                (sym q) (mine.noted c old held))
                (λ other. mine.noted e l
                (sym (get_or-set_other k.hand c e (Some (history y)) None other) ∙ z));
            told = λ e pos.
                lasts_law abouts e (asof k e) r.histories later (mine.told e pos) within
                lawful;
            since = λ e pos. prefixes-on (asof k e) k.seen k'.seen (mine.since e pos)
                (prefixes-seen k.seen c (history y) (omega arith)
                (xs, y_is ∙ ap (λ l. l ++ xs) (sym has_looked)));
            wide = subst (IsWide k') (sym long')
                (wide-sealed k c (length r.histories) mine.wide (history y));
          }
          lawful
          (grown-on Mine start r.histories later r.grown (grows Mine
          (All-weaker (λ entry. writer entry ≡ k.number) Mine
          (λ entry e. subst (Contains numbers) (sym e) mine.listed) xs by_me)))

    pub seals : Allows Rule slots id me (3 * c + 2) (λ n. (n + more) % 2 ^ 64)
        (Seals history (step slots (3 * c + 2) more 0 none) me)
    seals s r deep at_id fits =
        let here = at_id ∙ ap some is in let d = r.deep in
        let low : c < length r.histories = omega arith in
        let mine = r.each_pass id 0 (lone f k) k here refl in
        let whole : at r.histories c ≡ old = (mine.hands c old held).3 in
        let lawful : law abouts (with_more r.histories c xs) =
        subst (λ (b : List A). law b (with_more r.histories c xs)) mine.about_is
        (keeps_law r.histories
        (subst (λ (b : List A). law b r.histories) (sym mine.about_is) r.lawful)
        (prefixes_of_grown (λ entry. writer entry ≢ k.number) k.seen r.histories mine.seen)
        low (has_looked ∙ sym whole)) in
        let k' : K = sealed c (history y) k in
        let after : List ℕ → K → Me (Option C) (View A E) = λ g x. (lone g x, me.1) in
        let T : ℕ × (K × (C × List ℕ)) → Type 0 = λ z.
        after f k' ≡ after z.1.1.1 (sealed z.0 (history z.1.1.0) z.1.0) in
        let done : T (c, (k, (y, f))) = refl in (
          lone f k',
          keeps,
          tt,
          after_seal s r here low lawful,
          λ e g x z w v u.
              let q = same_length c e w in let p = same_pass f g k x (sym is ∙ v) in
              let fs = same_faults f g k x (sym is ∙ v) in
              let o : y ≡ z = ap (front y) (sym carried ∙ u) in
              subst T (λ n. (q n, (p n, (o n, fs n)))) done,
        )
