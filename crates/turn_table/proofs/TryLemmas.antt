-- A try to take a turn keeps the rule.
use Rattle.std.proofs.Common.{ℕ, ◌+◌, ◌*◌, ◌≡◌, ◌≢◌, ◌<◌, eqb, Bool, List, ◌∷◌, length, get_or, set, sym, refl, ap, ◌∙◌, subst, ⊎_elim, inl, inr, arith, Option, Some, None, length-set, get_or-set_other, get_or-set_same, eq-eqb, ne_eqb}
use Rattle.std.specs.Prelude.{slice_get}
use mathlib.Core.Logic.{dite}
use mathlib.Core.Option.{none, some}
use native.Mathlib.Decide.{ℕ_discrete}
use lib.ListN.{get_elem?}
use Rattle.std.proofs.lemmas.List.{set-get_or}
use prog.Atomic.{either}
use Rattle.atomic_table.specs.Table.{Allows, Me, State, keeps, step, stepped, takes}
use Rattle.atomic_table.proofs.Lists.{set_else}
use Rattle.turn_table.specs.declared.knowledge.Known.{Known}
use Rattle.turn_table.specs.declared.knowledge.View.{View}
use Rattle.turn_table.specs.Histories.{at}
use Rattle.turn_table.specs.Knowledge.{barred, hand, lone, missed, took}
use Rattle.turn_table.specs.Rule.{IsCell, IsClosed, IsHeld, IsHome, IsOpen, IsPass, Kept}
use Rattle.turn_table.specs.Steps.{IsKeptFor, Tries}
use Rattle.turn_table.proofs.KnowledgeLemmas.{same_faults, same_pass, wide-barred, wide-missed, wide-took}
use Rattle.turn_table.proofs.ListLemmas.{put, put_else, put_here}
use Rattle.turn_table.proofs.MoveLemmas.{cell_stays, holds_now, moves}

-- a cell's turn word tells which cell it is
pub same_cell : (c d : ℕ) → 3 * c + 1 ≡ 3 * d + 1 → c ≡ d
same_cell c d e = omega arith

module _ {C A E : Type 0} (about : C → A) (history : C → List E) (writer : E → ℕ)
    (law : List A → List (List E) → Type 0)
    (tells : List A → ℕ → List (List E) → List (List E) → Type 0) (settled : C → Type 0)
    (is_shut : C → Bool) (fault_count : C → ℕ)
    (abouts : List A) (start : List (List E)) (numbers : List ℕ) where
  abbrev K : Type 0
  K = Known A E

  abbrev St : Type 0
  St = State (Option C) (View A E)

  abbrev Rule : St → Type 0
  Rule = Kept about history writer law tells settled is_shut fault_count abouts start numbers

  module _ (id : ℕ) (me : Me (Option C) (View A E)) (f : List ℕ) (k : K) (c : ℕ) where
    -- the word was 0: the pass takes the slot and the value
    wins : (s : St) (r : Rule s) (here : get_elem? s.views id ≡ some (lone f k))
        (low : c < length r.histories) (known : c < length f)
        (zero_is : get_or s.words (3 * c + 1) 0 ≡ 0)
        (home : IsHome about history fault_count abouts s.homes (at r.histories c)
        (get_or s.words (3 * c + 3) 0) c)
        → (hand k c ≡ None)
        × Rule (stepped s (3 * c + 1) 1 id me.1
        (lone (set f c (fault_count home.0)) (took c (history home.0) k))
        (takes c (Some home.0)))
    wins s r here low known zero_is home =
        let i : ℕ = 3 * c + 1 in let wide = r.wide in
        let cell = r.each_cell c low in let mine = r.each_pass id 0 (lone f k) k here refl in
        let y : C = home.0 in let k' : K = took c (history y) k in
        let f' : List ℕ = set f c (fault_count y) in
        let words' : List ℕ = set s.words i 1 in let width = mine.wide.hand in
        let now : get_or words' i 0 ≡ 1 = get_or-set_same s.words i 1 0 (omega arith) in
        let held : hand k' c ≡ Some (history y) =
        get_or-set_same k.hand c (Some (history y)) None (omega arith) in
        let holder' : ℕ → ℕ = put r.holder c k.number in
        let kept_word : (e : ℕ) → e ≢ c → get_or words' (3 * e + 1) 0 ≡ get_or s.words (3 * e + 1) 0
        = λ e other. get_or-set_other s.words i (3 * e + 1) 1 0 (λ z. other (omega arith)) in
        let kept_length : (e : ℕ) → get_or words' (3 * e + 2) 0 ≡ get_or s.words (3 * e + 2) 0
        = λ e. get_or-set_other s.words i (3 * e + 2) 1 0 (λ z. omega arith) in
        let kept_fault : (e : ℕ) → get_or words' (3 * e + 3) 0 ≡ get_or s.words (3 * e + 3) 0
        = λ e. get_or-set_other s.words i (3 * e + 3) 1 0 (λ z. omega arith) in
        let other_word : (e : ℕ) → e ≢ c → get_or f' e 0 ≡ get_or f e 0
        = λ e other. get_or-set_other f c e (fault_count y) 0 other in (
          empty (hand k c) refl zero_is (λ h z. (mine.hands c h z).2),
          moves about history writer law tells settled is_shut fault_count abouts start numbers s r
              id f f' k k' words'
              (set s.homes c none) r.histories holder' here refl (length-set s.words i 1)
              (length-set s.homes c none) refl
              (λ e l. dite (ℕ_discrete e c)
              (λ (q : e ≡ c). subst (IsCell about history settled is_shut fault_count abouts
              r.histories words' (set s.homes c none) (set s.views id (lone f' k'))) (sym q) record {
                long = kept_length c ∙ cell.long;
                turn = inr (inl (now, holds_now s.views id f f' k k' c (history y) here held));
              })
              (λ other. cell_stays about history settled is_shut fault_count abouts r.histories
              r.histories s.words words' s.homes (set s.homes c none) s.views id f f' k k' e here
              (get_or-set_other k.hand c e (Some (history y)) None other) (kept_word e other)
              (kept_length e) (kept_fault e) (set_else s.homes c e none other) refl
              (r.each_cell e l)))
              (λ j g x apart ok. record {
                about_is = ok.about_is;
                start_is = ok.start_is;
                numbers_are = ok.numbers_are;
                listed = ok.listed;
                mine = ok.mine;
                seen = ok.seen;
                hands = λ e h z.
                    let was = ok.hands e h z in let one = was.2 in
                    let other : e ≢ c = λ q. let w : get_or s.words (3 * c + 1) 0 ≡ 1 =
                    ap (λ (n : ℕ). get_or s.words (3 * n + 1) 0) (sym q) ∙ one in omega arith in (
                      was.0,
                      put_else r.holder c k.number e other ∙ was.1,
                      kept_word e other ∙ was.2,
                      was.3,
                    );
                noted = λ e h z. kept_fault e ∙ ok.noted e h z;
                told = ok.told;
                since = ok.since;
                wide = ok.wide;
              })
              record {
                about_is = mine.about_is;
                start_is = mine.start_is;
                numbers_are = mine.numbers_are;
                listed = mine.listed;
                mine = mine.mine;
                seen = mine.seen;
                hands = λ e h z. dite (ℕ_discrete e c)
                    (λ (q : e ≡ c). let same : history y ≡ h = cc (held, z, q) in (
                      subst (λ (n : ℕ). n < length r.histories) (sym q) low,
                      ap holder' q ∙ put_here r.holder c k.number,
                      ap (λ (n : ℕ). get_or words' (3 * n + 1) 0) q ∙ now,
                      ap (at r.histories) q ∙ (sym home.3 ∙ same),
                    ))
                    (λ other. let was = mine.hands e h
                    (sym (get_or-set_other k.hand c e (Some (history y)) None other) ∙ z) in (
                      was.0,
                      put_else r.holder c k.number e other ∙ was.1,
                      kept_word e other ∙ was.2,
                      was.3,
                    ));
                noted = λ e h z. dite (ℕ_discrete e c)
                    (λ (q : e ≡ c). let here_is : get_or words' (3 * c + 3) 0 ≡ get_or f' c 0 =
                    kept_fault c ∙ (sym home.4
                    ∙ sym (get_or-set_same f c (fault_count y) 0 known)) in
                    subst (λ (n : ℕ). get_or words' (3 * n + 3) 0 ≡ get_or f' n 0) (sym q) here_is)
                    (λ other. kept_fault e ∙ (mine.noted e h
                    (sym (get_or-set_other k.hand c e (Some (history y)) None other) ∙ z)
                    ∙ sym (other_word e other)));
                told = mine.told;
                since = mine.since;
                wide = wide-took k c (length r.histories) mine.wide (history y);
              }
              r.lawful r.grown,
        )
      where
        empty : (h : Option (List E)) → hand k c ≡ h → get_or s.words (3 * c + 1) 0 ≡ 0
            → ((l : List E) → hand k c ≡ Some l → get_or s.words (3 * c + 1) 0 ≡ 1)
            → hand k c ≡ None
        empty None e z f = e
        empty (Some l) e z f = let one = f l e in absurd (omega arith)

    -- the word was another: it stays, and the pass knows k' of what it found
    misses : (s : St) (r : Rule s) (here : get_elem? s.views id ≡ some (lone f k)) (k' : K)
        → k'.number ≡ k.number → ((e : ℕ) → hand k' e ≡ hand k e)
        → IsPass writer tells abouts start numbers r.histories r.owner r.holder s.words f id k'
        → Rule (stepped s (3 * c + 1) (get_or s.words (3 * c + 1) 0) id me.1 (lone f k') keeps)
    misses s r here k' number in_hand ok =
        subst (λ ws. Rule record {
          words = ws;
          homes = s.homes;
          views = set s.views id (lone f k');
        })
        (sym (set-get_or s.words (3 * c + 1) 0))
        (moves about history writer law tells settled is_shut fault_count abouts start numbers s r
        id f f k k' s.words s.homes r.histories r.holder here number refl refl refl
        (λ e l. cell_stays about history settled is_shut fault_count abouts r.histories r.histories
        s.words s.words s.homes s.homes s.views id f f k k' e here (in_hand e) refl refl refl refl
        refl (r.each_cell e l))
        (λ j g x apart ok. ok) ok r.lawful r.grown)

    -- the pass met the turn taken, or the cell shut
    has_missed : (s : St) (r : Rule s) (here : get_elem? s.views id ≡ some (lone f k))
        → Rule (stepped s (3 * c + 1) (get_or s.words (3 * c + 1) 0) id me.1 (lone f (missed c k))
        keeps)
    has_missed s r here =
        let mine = r.each_pass id 0 (lone f k) k here refl in
        misses s r here (missed c k) refl (λ e. refl) record {
          about_is = mine.about_is;
          start_is = mine.start_is;
          numbers_are = mine.numbers_are;
          listed = mine.listed;
          mine = mine.mine;
          seen = mine.seen;
          hands = mine.hands;
          noted = mine.noted;
          told = mine.told;
          since = mine.since;
          wide = wide-missed k c (length r.histories) mine.wide;
        }

    is_barred : (s : St) (r : Rule s) (here : get_elem? s.views id ≡ some (lone f k))
        → Rule (stepped s (3 * c + 1) (get_or s.words (3 * c + 1) 0) id me.1 (lone f (barred c k))
        keeps)
    is_barred s r here =
        let mine = r.each_pass id 0 (lone f k) k here refl in
        misses s r here (barred c k) refl (λ e. refl) record {
          about_is = mine.about_is;
          start_is = mine.start_is;
          numbers_are = mine.numbers_are;
          listed = mine.listed;
          mine = mine.mine;
          seen = mine.seen;
          hands = mine.hands;
          noted = mine.noted;
          told = mine.told;
          since = mine.since;
          wide = wide-barred k c (length r.histories) mine.wide;
        }

  -- the rule of the table for which the pass was made
  kept_for : (k x : K) (s : St) (r : Rule s) → k ≡ x → k.about ≡ abouts → k.start ≡ start
      → k.numbers ≡ numbers
      → IsKeptFor about history writer law tells settled is_shut fault_count x s
  kept_for k x s r p about_is start_is numbers_are =
      subst (λ (z : List A × (List (List E) × List ℕ)).
      Kept about history writer law tells settled is_shut fault_count z.0 z.1.0 z.1.1 s)
      (λ n. (
        (sym about_is ∙ ap (λ (z : K). z.about) p) n,
        (
          (sym start_is ∙ ap (λ (z : K). z.start) p) n,
          (sym numbers_are ∙ ap (λ (z : K). z.numbers) p) n,
        ),
      )) r

  module _ (slots id : ℕ) (me : Me (Option C) (View A E)) (f : List ℕ) (k : K)
      (is : me.0 ≡ lone f k) (c : ℕ) (room : c < slots) (known : c < length f) where
    pub tries : Allows Rule slots id me (3 * c + 1) (λ n. either (eqb n 0) 1 n)
        (Tries about history writer law tells settled is_shut fault_count
        (step slots (3 * c + 1) 0 1 none) me)
    tries s r deep at_id fits =
        let i : ℕ = 3 * c + 1 in let here = at_id ∙ ap some is in let d = r.deep in
        let low : c < length r.histories = omega arith in
        let mine = r.each_pass id 0 (lone f k) k here refl in
        let tied = mine.about_is in
        ⊎_elim
        (λ (t : (get_or s.words i 0 ≡ 0)
        × IsOpen about history settled is_shut fault_count abouts s.homes (at r.histories c)
        (get_or s.words (3 * c + 3) 0) c).
        let home = t.1.0 in let y : C = home.0 in
        let won = wins id me f k c s r here low known t.0 home in let zero_is = t.0 in
        let w' : View A E = lone (set f c (fault_count y)) (took c (history y) k) in (
          w',
          takes c (Some y),
          home.1,
          subst (λ b. Rule (stepped s i (either b 1 (get_or s.words i 0)) id me.1 w'
              (takes c (Some y))))
              (sym (eq-eqb (get_or s.words i 0) 0 t.0)) won.1,
          λ e g x w v. let q = same_cell c e w in let p = same_pass f g k x (sym is ∙ v) in
              let o = same_faults f g k x (sym is ∙ v) in (
                (λ _. (
                  ap (λ (z : ℕ × K). hand z.1 z.0) (λ n. (sym q n, sym p n)) ∙ won.0,
                  y,
                  ap (λ (z : K). slice_get z.about e) (sym p) ∙ (ap (λ l. slice_get l e) tied
                      ∙ (ap (slice_get abouts) (sym q) ∙ home.2)),
                  ap (λ (n : ℕ). (n, Some y) ∷ me.1) q,
                  (λ n. lone (set (o n) (q n) (fault_count y)) (took (q n) (history y) (p n))),
                  t.1.1,
                  t.1.2,
                )),
                (λ one. absurd (omega arith)),
                λ not_zero _. absurd (not_zero t.0),
              ),
        ))
        (⊎_elim
        (λ (t : (get_or s.words i 0 ≡ 1) × IsHeld s.views c).
        let one = t.0 in let miss : get_or s.words i 0 ≢ 0 = λ z. omega arith in (
          lone f (missed c k),
          keeps,
          tt,
          subst (λ b. Rule (stepped s i (either b 1 (get_or s.words i 0)) id me.1
              (lone f (missed c k)) keeps))
              (sym (ne_eqb (get_or s.words i 0) 0 miss)) (has_missed id me f k c s r here),
          λ e g x w v. let q = same_cell c e w in let p = same_pass f g k x (sym is ∙ v) in
              let o = same_faults f g k x (sym is ∙ v) in (
                (λ z. absurd (miss z)),
                (λ _. (
                  (λ n. (lone (o n) (missed (q n) (p n)), me.1)),
                  record {
                    state = s;
                    kept = kept_for k x s r p tied mine.start_is mine.numbers_are;
                    taken = ap (λ (n : ℕ). get_or s.words (3 * n + 1) 0) (sym q) ∙ one;
                  },
                )),
                λ _ not_one. absurd (not_one one),
              ),
        ))
        (λ (t : (get_or s.words i 0 ≡ 2)
        × IsClosed about history settled is_shut fault_count abouts s.homes (at r.histories c)
        (get_or s.words (3 * c + 3) 0) c).
        let two = t.0 in let miss : get_or s.words i 0 ≢ 0 = λ z. omega arith in (
          lone f (barred c k),
          keeps,
          tt,
          subst (λ b. Rule (stepped s i (either b 1 (get_or s.words i 0)) id me.1
              (lone f (barred c k)) keeps))
              (sym (ne_eqb (get_or s.words i 0) 0 miss)) (is_barred id me f k c s r here),
          λ e g x w v. let q = same_cell c e w in let p = same_pass f g k x (sym is ∙ v) in
              let o = same_faults f g k x (sym is ∙ v) in (
                (λ z. absurd (miss z)),
                (λ z. absurd (omega arith)),
                λ _ _. (
                  (λ n. (lone (o n) (barred (q n) (p n)), me.1)),
                  record {
                    state = s;
                    kept = kept_for k x s r p tied mine.start_is mine.numbers_are;
                    shut = ap (λ (n : ℕ). get_or s.words (3 * n + 1) 0) (sym q) ∙ two;
                  },
                ),
              ),
        )))
        (r.each_cell c low).turn
