-- A note of faults keeps the rule.
use Rattle.std.proofs.Common.{ℕ, ◌+◌, ◌*◌, ◌≡◌, ◌≢◌, ◌<◌, Bool, List, length, get_or, set, sym, refl, ap, ◌∙◌, subst, inl, inr, arith, Option, Some, length-set, get_or-set_other, get_or-set_same}
use mathlib.Core.Logic.{dite}
use mathlib.Core.Option.{none, some}
use native.Mathlib.Decide.{ℕ_discrete}
use lib.ListN.{get_elem?}
use Rattle.atomic_table.specs.Table.{Allows, Me, State, keeps, step}
use Rattle.turn_table.specs.declared.knowledge.Known.{Known}
use Rattle.turn_table.specs.declared.knowledge.View.{View}
use Rattle.turn_table.specs.Knowledge.{hand, lone, noted}
use Rattle.turn_table.specs.Rule.{IsCell, Kept}
use Rattle.turn_table.specs.Steps.{Notes}
use Rattle.turn_table.proofs.KnowledgeLemmas.{same_faults, same_pass, wide-noted}
use Rattle.turn_table.proofs.MoveLemmas.{cell_stays, holds_now, moves}

-- a cell's fault word tells which cell it is
same_fault : (c d : ℕ) → 3 * c + 3 ≡ 3 * d + 3 → c ≡ d
same_fault c d e = omega arith

module _ {C A E : Type 0} (about : C → A) (history : C → List E) (writer : E → ℕ)
    (law : List A → List (List E) → Type 0)
    (tells : List A → ℕ → List (List E) → List (List E) → Type 0) (settled : C → Type 0)
    (is_shut : C → Bool) (fault_count : C → ℕ)
    (abouts : List A) (start : List (List E)) (numbers : List ℕ) where
  abbrev K : Type 0
  K = Known A E

  abbrev St : Type 0
  St = State (Option C) (View A E)

  abbrev Rule : St → Type 0
  Rule = Kept about history writer law tells settled is_shut fault_count abouts start numbers

  module _ (slots id : ℕ) (me : Me (Option C) (View A E)) (f : List ℕ) (k : K)
      (is : me.0 ≡ lone f k) (c : ℕ) (room : c < slots) (known : c < length f)
      (entries : List E) (held : hand k c ≡ Some entries) (n : ℕ) where
    abbrev k' : K
    k' = noted c (get_or f c 0) n k

    abbrev f' : List ℕ
    f' = set f c n

    -- the fault word is n, and the pass knows it
    is_noted : (s : St) (r : Rule s) → get_elem? s.views id ≡ some (lone f k)
        → c < length r.histories → Rule record {
          words = set s.words (3 * c + 3) n;
          homes = s.homes;
          views = set s.views id (lone f' k');
        }
    is_noted s r here low =
        let i : ℕ = 3 * c + 3 in let wide = r.wide in
        let cell = r.each_cell c low in let mine = r.each_pass id 0 (lone f k) k here refl in
        let was = mine.hands c entries held in let words' : List ℕ = set s.words i n in
        let now : get_or words' i 0 ≡ n = get_or-set_same s.words i n 0 (omega arith) in
        let kept_word : (e : ℕ) → get_or words' (3 * e + 1) 0 ≡ get_or s.words (3 * e + 1) 0
        = λ e. get_or-set_other s.words i (3 * e + 1) n 0 (λ z. omega arith) in
        let kept_length : (e : ℕ) → get_or words' (3 * e + 2) 0 ≡ get_or s.words (3 * e + 2) 0
        = λ e. get_or-set_other s.words i (3 * e + 2) n 0 (λ z. omega arith) in
        let kept_fault : (e : ℕ) → e ≢ c
        → get_or words' (3 * e + 3) 0 ≡ get_or s.words (3 * e + 3) 0
        = λ e other. get_or-set_other s.words i (3 * e + 3) n 0 (λ z. other (omega arith)) in
        moves about history writer law tells settled is_shut fault_count abouts start numbers s r
        id f f' k k' words' s.homes r.histories r.holder here refl (length-set s.words i n) refl
        refl
        (λ e l. dite (ℕ_discrete e c)
        (λ (q : e ≡ c). subst (IsCell about history settled is_shut fault_count abouts
        r.histories words' s.homes (set s.views id (lone f' k'))) (sym q) record {
          long = kept_length c ∙ cell.long;
          turn = inr (inl (
            kept_word c ∙ was.2,
            holds_now s.views id f f' k k' c entries here held,
          ));
        })
        (λ other. cell_stays about history settled is_shut fault_count abouts r.histories
        r.histories s.words words' s.homes s.homes s.views id f f' k k' e here refl (kept_word e)
        (kept_length e) (kept_fault e other) refl refl (r.each_cell e l)))
        (λ j g x apart ok. record {
          about_is = ok.about_is;
          start_is = ok.start_is;
          numbers_are = ok.numbers_are;
          listed = ok.listed;
          mine = ok.mine;
          seen = ok.seen;
          hands = λ e l z. let t = ok.hands e l z in (t.0, t.1, kept_word e ∙ t.2, t.3);
          noted = λ e l z. let t = ok.hands e l z in dite (ℕ_discrete e c)
              (λ q. absurd (apart (sym t.1 ∙ (ap r.holder q ∙ was.1))))
              (λ other. kept_fault e other ∙ ok.noted e l z);
          told = ok.told;
          since = ok.since;
          wide = ok.wide;
        })
        record {
          about_is = mine.about_is;
          start_is = mine.start_is;
          numbers_are = mine.numbers_are;
          listed = mine.listed;
          mine = mine.mine;
          seen = mine.seen;
          hands = λ e l z. let t = mine.hands e l z in (t.0, t.1, kept_word e ∙ t.2, t.3);
          noted = λ e l z. dite (ℕ_discrete e c)
              (λ (q : e ≡ c). let here_is : get_or words' (3 * c + 3) 0 ≡ get_or f' c 0 =
              now ∙ sym (get_or-set_same f c n 0 known) in
              subst (λ (m : ℕ). get_or words' (3 * m + 3) 0 ≡ get_or f' m 0) (sym q) here_is)
              (λ other. kept_fault e other ∙ (mine.noted e l z
              ∙ sym (get_or-set_other f c e n 0 other)));
          told = mine.told;
          since = mine.since;
          wide = wide-noted k c (length r.histories) mine.wide (get_or f c 0) n;
        }
        r.lawful r.grown

    pub notes : Allows Rule slots id me (3 * c + 3) (λ _. n)
        (Notes (step slots (3 * c + 3) n 0 none) me)
    notes s r deep at_id fits =
        let here = at_id ∙ ap some is in let d = r.deep in
        let low : c < length r.histories = omega arith in
        let after : List ℕ → K → Me (Option C) (View A E) = λ g x. (lone g x, me.1) in
        let T : ℕ × (K × List ℕ) → Type 0 = λ z.
        after f' k' ≡ after (set z.1.1 z.0 n) (noted z.0 (get_or z.1.1 z.0 0) n z.1.0) in
        let done : T (c, (k, f)) = refl in (
          lone f' k',
          keeps,
          tt,
          is_noted s r here low,
          λ e g x l w v z.
              let q = same_fault c e w in let p = same_pass f g k x (sym is ∙ v) in
              let fs = same_faults f g k x (sym is ∙ v) in
              subst T (λ m. (q m, (p m, fs m))) done,
        )
