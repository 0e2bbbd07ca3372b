-- The giving back of a turn keeps the rule.
use Rattle.std.proofs.Common.{ℕ, ◌+◌, ◌*◌, ◌≡◌, ◌≢◌, ◌⊎◌, ◌<◌, Bool, true, false, cond, List, ◌∷◌, length, get_or, set, sym, refl, ap, ◌∙◌, subst, ⊎_elim, inl, inr, arith, Option, Some, None, length-set, get_or-set_other, get_or-set_same}
use Rattle.std.specs.Prelude.{slice_get}
use mathlib.Core.Logic.{dite}
use mathlib.Core.Option.{none, some}
use mathlib.Core.Option as place
use native.Mathlib.Decide.{ℕ_discrete}
use lib.ListN.{get_elem?}
use Rattle.atomic_table.specs.Table.{Allows, Me, State, gives, homes_after, rest, step}
use Rattle.atomic_table.proofs.Lists.{set_else, set_here}
use Rattle.turn_table.specs.declared.knowledge.Known.{Known}
use Rattle.turn_table.specs.declared.knowledge.View.{View}
use Rattle.turn_table.specs.Histories.{at}
use Rattle.turn_table.specs.Knowledge.{gave, hand, lone}
use Rattle.turn_table.specs.Rule.{IsCell, IsHome, Kept}
use Rattle.turn_table.specs.Steps.{Gives}
use Rattle.turn_table.proofs.KnowledgeLemmas.{same_faults, same_pass, wide-gave}
use Rattle.turn_table.proofs.MoveLemmas.{cell_stays, moves}
use Rattle.turn_table.proofs.TryLemmas.{same_cell}

abbrev pub word_for : Bool → ℕ
word_for shut = cond shut 2 0

-- the turn word of a value that is given back, which is settled or shut
pub ending_of : (shut : Bool) (S : Type 0) → S ⊎ (shut ≡ true)
    → ((word_for shut ≡ 0) × S × (shut ≡ false)) ⊎ ((word_for shut ≡ 2) × (shut ≡ true))
ending_of true S end = inr (refl, refl)
ending_of false S (inl s) = inl (refl, s, refl)
ending_of false S (inr e) = absurd (cc)

module _ {C A E : Type 0} (about : C → A) (history : C → List E) (writer : E → ℕ)
    (law : List A → List (List E) → Type 0)
    (tells : List A → ℕ → List (List E) → List (List E) → Type 0) (settled : C → Type 0)
    (is_shut : C → Bool) (fault_count : C → ℕ)
    (abouts : List A) (start : List (List E)) (numbers : List ℕ) where
  abbrev K : Type 0
  K = Known A E

  abbrev St : Type 0
  St = State (Option C) (View A E)

  abbrev Rule : St → Type 0
  Rule = Kept about history writer law tells settled is_shut fault_count abouts start numbers

  module _ (slots id : ℕ) (me : Me (Option C) (View A E)) (f : List ℕ) (k : K)
      (is : me.0 ≡ lone f k) (c : ℕ)
      (room : c < slots) (entries : List E) (held : hand k c ≡ Some entries) (y : C)
      (carried : me.1 ≡ (c, Some y) ∷ rest me.1) (y_is : entries ≡ history y)
      (tied : slice_get k.about c ≡ Some (about y)) (noted_is : get_or f c 0 ≡ fault_count y)
      (n : ℕ)
      (end : ((n ≡ 0) × settled y × (is_shut y ≡ false)) ⊎ ((n ≡ 2) × (is_shut y ≡ true))) where
    -- the value is at home again, and the turn word is 0, or 2 where the value is shut
    goes_home : (s : St) (r : Rule s) → get_elem? s.views id ≡ some (lone f k)
        → c < length r.histories → Rule record {
          words = set s.words (3 * c + 1) n;
          homes = set s.homes c (some (Some y));
          views = set s.views id (lone f (gave c k));
        }
    goes_home s r here low =
        let i : ℕ = 3 * c + 1 in let wide = r.wide in let d = r.deep in
        let cell = r.each_cell c low in let mine = r.each_pass id 0 (lone f k) k here refl in
        let w₁ = mine.wide.hand in let was = mine.hands c entries held in
        let words' : List ℕ = set s.words i n in
        let homes' : List (place.Option (Option C)) = set s.homes c (some (Some y)) in
        let k' : K = gave c k in
        let empty : hand k' c ≡ None = get_or-set_same k.hand c None None (omega arith) in
        let kept_word : (e : ℕ) → e ≢ c
        → get_or words' (3 * e + 1) 0 ≡ get_or s.words (3 * e + 1) 0
        = λ e other. get_or-set_other s.words i (3 * e + 1) n 0 (λ z. other (omega arith)) in
        let kept_length : (e : ℕ) → get_or words' (3 * e + 2) 0 ≡ get_or s.words (3 * e + 2) 0
        = λ e. get_or-set_other s.words i (3 * e + 2) n 0 (λ z. omega arith) in
        let kept_fault : (e : ℕ) → get_or words' (3 * e + 3) 0 ≡ get_or s.words (3 * e + 3) 0
        = λ e. get_or-set_other s.words i (3 * e + 3) n 0 (λ z. omega arith) in
        let now : get_or words' i 0 ≡ n = get_or-set_same s.words i n 0 (omega arith) in
        let home : IsHome about history fault_count abouts homes' (at r.histories c)
        (get_or words' (3 * c + 3) 0) c = (
          y,
          set_here s.homes c (some (Some y)) (omega arith),
          ap (λ l. slice_get l c) (sym mine.about_is) ∙ tied,
          sym (was.3 ∙ y_is),
          sym (kept_fault c ∙ (mine.noted c entries held ∙ noted_is)),
        ) in
        moves about history writer law tells settled is_shut fault_count abouts start numbers s r
        id f f k k' words' homes'
        r.histories r.holder here refl (length-set s.words i n)
        (length-set s.homes c (some (Some y))) refl
        (λ e l. dite (ℕ_discrete e c)
        (λ (q : e ≡ c). subst (IsCell about history settled is_shut fault_count abouts
        r.histories words' homes' (set s.views id (lone f k'))) (sym q) record {
          long = kept_length c ∙ cell.long;
          turn = ⊎_elim
              (λ (t : (n ≡ 0) × settled y × (is_shut y ≡ false)).
              inl (now ∙ t.0, (home, t.1, t.2)))
              (λ (t : (n ≡ 2) × (is_shut y ≡ true)). inr (inr (now ∙ t.0, (home, t.1))))
              end;
        })
        (λ other. cell_stays about history settled is_shut fault_count abouts r.histories
        r.histories s.words words' s.homes homes' s.views id f f k k' e here
        (get_or-set_other k.hand c e None None other) (kept_word e other)
        (kept_length e) (kept_fault e) (set_else s.homes c e (some (Some y)) other) refl
        (r.each_cell e l)))
        (λ j g x apart ok. record {
          about_is = ok.about_is;
          start_is = ok.start_is;
          numbers_are = ok.numbers_are;
          listed = ok.listed;
          mine = ok.mine;
          seen = ok.seen;
          hands = λ e l z. let t = ok.hands e l z in dite (ℕ_discrete e c)
              (λ q. absurd (apart (sym t.1 ∙ (ap r.holder q ∙ was.1))))
              (λ other. (t.0, t.1, kept_word e other ∙ t.2, t.3));
          noted = λ e l z. kept_fault e ∙ ok.noted e l z;
          told = ok.told;
          since = ok.since;
          wide = ok.wide;
        })
        record {
          about_is = mine.about_is;
          start_is = mine.start_is;
          numbers_are = mine.numbers_are;
          listed = mine.listed;
          mine = mine.mine;
          seen = mine.seen;
          hands = λ e l z. dite (ℕ_discrete e c)
              (λ (q : e ≡ c). absurd (cc (empty, z, q)))
              (λ other. let t = mine.hands e l
              (sym (get_or-set_other k.hand c e None None other) ∙ z) in
              (t.0, t.1, kept_word e other ∙ t.2, t.3));
          noted = λ e l z. dite (ℕ_discrete e c)
              (λ (q : e ≡ c). absurd (cc (empty, z, q)))
              (λ other. kept_fault e ∙ mine.noted e l
              (sym (get_or-set_other k.hand c e None None other) ∙ z));
          told = mine.told;
          since = mine.since;
          wide = wide-gave k c (length r.histories) mine.wide;
        }
        r.lawful r.grown

    pub gives_back : Allows Rule slots id me (3 * c + 1) (λ _. n)
        (Gives (step slots (3 * c + 1) n 0 none) me)
    gives_back s r deep at_id fits =
        let here = at_id ∙ ap some is in let d = r.deep in
        let low : c < length r.histories = omega arith in
        let k' : K = gave c k in
        let after : List ℕ → K → Me (Option C) (View A E) = λ g x. (lone g x, rest me.1) in
        let T : ℕ × (K × List ℕ) → Type 0 = λ z. after f k' ≡ after z.1.1 (gave z.0 z.1.0) in
        let done : T (c, (k, f)) = refl in (
          lone f k',
          gives,
          tt,
          subst (λ l. Rule record {
            words = set s.words (3 * c + 1) n;
            homes = homes_after s.homes l gives;
            views = set s.views id (lone f k');
          })
              (sym carried) (goes_home s r here low),
          λ e g x w v.
              let q = same_cell c e w in let p = same_pass f g k x (sym is ∙ v) in
              let fs = same_faults f g k x (sym is ∙ v) in
              subst T (λ m. (q m, (p m, fs m))) done,
        )
