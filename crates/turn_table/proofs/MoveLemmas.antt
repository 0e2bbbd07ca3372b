-- A step of a pass that is alone in its seat keeps the rule.
use Rattle.std.proofs.Common.{ℕ, ◌+◌, ◌*◌, ◌≡◌, ◌≢◌, ◌<◌, Bool, List, length, get_or, set, sym, refl, ap, ◌∙◌, subst, ⊎_elim, inl, inr, Option, Some}
use Rattle.std.specs.Prelude.{Contains}
use mathlib.Core.Logic.{dite}
use mathlib.Core.Option.{some, some-injective}
use mathlib.Core.Option as place
use native.Mathlib.Decide.{ℕ_discrete}
use lib.ListN.{get_elem?}
use Rattle.atomic_table.specs.Table.{State}
use Rattle.atomic_table.proofs.Lists.{at_set, set_here, set_else}
use Rattle.turn_table.specs.declared.knowledge.Known.{Known}
use Rattle.turn_table.specs.declared.knowledge.View.{View}
use Rattle.turn_table.specs.Histories.{at, GrewBy}
use Rattle.turn_table.specs.Knowledge.{hand, lone, passes_of}
use Rattle.turn_table.specs.Rule.{IsCell, IsClosed, IsHeld, IsHome, IsOpen, IsPass, Kept}
use Rattle.turn_table.proofs.ListLemmas.{inside, only}

module _ {A E : Type 0} where
  -- what a seat with one pass has
  pub alone_in : (views : List (View A E)) (seat : ℕ) (f : List ℕ) (k : Known A E)
      → get_elem? views seat ≡ some (lone f k) → (v : View A E) (i : ℕ) (x : Known A E)
      → get_elem? views seat ≡ some v → get_elem? (passes_of v) i ≡ some x
      → (i ≡ 0) × (k ≡ x)
  alone_in views seat f k at_seat v i x at_v at_x = only k x i
      (subst (λ (w : View A E). get_elem? (passes_of w) i ≡ some x)
      (some-injective v (lone f k) (sym at_v ∙ at_seat)) at_x)

  -- a turn stays with its pass
  held_stays : (views : List (View A E)) (seat : ℕ) (f f' : List ℕ) (k k' : Known A E) (c : ℕ)
      → get_elem? views seat ≡ some (lone f k) → hand k' c ≡ hand k c → IsHeld views c
      → IsHeld (set views seat (lone f' k')) c
  held_stays views seat f f' k k' c at_seat same h = dite (ℕ_discrete h.seat seat)
      (λ e. let one = alone_in views seat f k at_seat h.view h.place h.pass
      (ap (get_elem? views) (sym e) ∙ h.seated) h.placed in record {
        seat = seat;
        view = lone f' k';
        place = 0;
        pass = k';
        history = h.history;
        seated = set_here views seat (lone f' k') (inside views seat (lone f k) at_seat);
        placed = refl;
        holds = same ∙ (ap (λ (x : Known A E). hand x c) one.1 ∙ h.holds);
      })
      (λ other. record {
        seat = h.seat;
        view = h.view;
        place = h.place;
        pass = h.pass;
        history = h.history;
        seated = set_else views seat h.seat (lone f' k') other ∙ h.seated;
        placed = h.placed;
        holds = h.holds;
      })

  -- the pass of the seat holds the turn
  pub holds_now : (views : List (View A E)) (seat : ℕ) (f f' : List ℕ) (k k' : Known A E) (c : ℕ)
      (entries : List E) → get_elem? views seat ≡ some (lone f k) → hand k' c ≡ Some entries
      → IsHeld (set views seat (lone f' k')) c
  holds_now views seat f f' k k' c entries at_seat in_hand = record {
    seat = seat;
    view = lone f' k';
    place = 0;
    pass = k';
    history = entries;
    seated = set_here views seat (lone f' k') (inside views seat (lone f k) at_seat);
    placed = refl;
    holds = in_hand;
  }

-- a cell that the step leaves alone
pub cell_stays : {C A E : Type 0} (about : C → A) (history : C → List E) (settled : C → Type 0)
    (is_shut : C → Bool) (fault_count : C → ℕ) (abouts : List A)
    (histories later : List (List E)) (words words' : List ℕ)
    (homes homes' : List (place.Option (Option C))) (views : List (View A E)) (seat : ℕ)
    (f f' : List ℕ) (k k' : Known A E) (c : ℕ) → get_elem? views seat ≡ some (lone f k)
    → hand k' c ≡ hand k c
    → get_or words' (3 * c + 1) 0 ≡ get_or words (3 * c + 1) 0
    → get_or words' (3 * c + 2) 0 ≡ get_or words (3 * c + 2) 0
    → get_or words' (3 * c + 3) 0 ≡ get_or words (3 * c + 3) 0
    → get_elem? homes' c ≡ get_elem? homes c → at later c ≡ at histories c
    → IsCell about history settled is_shut fault_count abouts histories words homes views c
    → IsCell about history settled is_shut fault_count abouts later words' homes'
    (set views seat (lone f' k')) c
cell_stays {C} {A} {E} about history settled is_shut fault_count abouts histories later words
    words' homes
    homes' views seat f f' k k' c at_seat in_hand turn long fault home same ok =
    let Home : List (place.Option (Option C)) → List (List E) → List ℕ → Type 0 = λ hs l ws.
    IsHome about history fault_count abouts hs (at l c) (get_or ws (3 * c + 3) 0) c in
    let at_home : Home homes histories words → Home homes' later words' = λ h.
    (h.0, home ∙ h.1, h.2, h.3 ∙ sym same, h.4 ∙ sym fault) in record {
      long = long ∙ (ok.long ∙ ap length (sym same));
      turn = ⊎_elim
          (λ (t : (get_or words (3 * c + 1) 0 ≡ 0)
          × IsOpen about history settled is_shut fault_count abouts homes (at histories c)
          (get_or words (3 * c + 3) 0) c).
          inl (turn ∙ t.0, (at_home t.1.0, t.1.1, t.1.2)))
          (⊎_elim
          (λ (t : (get_or words (3 * c + 1) 0 ≡ 1) × IsHeld views c).
          inr (inl (turn ∙ t.0, held_stays views seat f f' k k' c at_seat in_hand t.1)))
          (λ (t : (get_or words (3 * c + 1) 0 ≡ 2)
          × IsClosed about history settled is_shut fault_count abouts homes (at histories c)
          (get_or words (3 * c + 3) 0) c).
          inr (inr (turn ∙ t.0, (at_home t.1.0, t.1.1)))))
          ok.turn;
    }

module _ {C A E : Type 0} (about : C → A) (history : C → List E) (writer : E → ℕ)
    (law : List A → List (List E) → Type 0)
    (tells : List A → ℕ → List (List E) → List (List E) → Type 0) (settled : C → Type 0)
    (is_shut : C → Bool) (fault_count : C → ℕ)
    (abouts : List A) (start : List (List E)) (numbers : List ℕ) where
  abbrev K : Type 0
  K = Known A E

  abbrev W : Type 0
  W = View A E

  abbrev St : Type 0
  St = State (Option C) W

  abbrev Rule : St → Type 0
  Rule = Kept about history writer law tells settled is_shut fault_count abouts start numbers

  abbrev Ok : List (List E) → (ℕ → ℕ) → (ℕ → ℕ) → List ℕ → List ℕ → ℕ → K → Type 0
  Ok = IsPass writer tells abouts start numbers

  -- the pass k, alone in its seat, becomes k'
  pub moves : (s : St) (r : Rule s) (seat : ℕ) (f f' : List ℕ) (k k' : K) (words' : List ℕ)
      (homes' : List (place.Option (Option C))) (later : List (List E)) (holder' : ℕ → ℕ)
      → get_elem? s.views seat ≡ some (lone f k) → k'.number ≡ k.number
      → length words' ≡ length s.words → length homes' ≡ length s.homes
      → length later ≡ length r.histories
      → ((c : ℕ) → c < length later
      → IsCell about history settled is_shut fault_count abouts later words' homes'
      (set s.views seat (lone f' k')) c)
      → ((j : ℕ) (g : List ℕ) (x : K) → x.number ≢ k.number
      → Ok r.histories r.owner r.holder s.words g j x → Ok later r.owner holder' words' g j x)
      → Ok later r.owner holder' words' f' seat k'
      → law abouts later
      → GrewBy (λ entry. Contains numbers (writer entry)) start later
      → Rule record { words = words'; homes = homes'; views = set s.views seat (lone f' k') }
  moves s r seat f f' k k' words' homes' later holder' at_seat number wide deep long cells others
      mine
      lawful grown =
      let views' : List W = set s.views seat (lone f' k') in
      let low = inside s.views seat (lone f k) at_seat in
      let here : get_elem? views' seat ≡ some (lone f' k') = set_here s.views seat (lone f' k') low
      in
      record {
        histories = later;
        owner = r.owner;
        holder = holder';
        lawful = lawful;
        wide = wide ∙ (r.wide ∙ ap (λ n. 3 * n + 1) (sym long));
        deep = deep ∙ (r.deep ∙ sym long);
        each_cell = cells;
        each_pass = λ j i v x at_v at_x. ⊎_elim
            (λ (t : (j ≡ seat) × (lone f' k' ≡ v)).
            let one = alone_in views' seat f' k' here v i x (here ∙ ap some t.1) at_x in
            subst (λ (y : List ℕ × (ℕ × K)). Ok later r.owner holder' words' y.0 y.1.0 y.1.1)
            (λ n. ((t.1 n).faults, (sym t.0 n, one.1 n))) mine)
            (λ (t : (j ≢ seat) × (get_elem? s.views j ≡ some v)).
            let ok = r.each_pass j i v x t.1 at_x in
            others j v.faults x (λ e. t.0 (sym ok.mine ∙ (ap r.owner e
            ∙ (r.each_pass seat 0 (lone f k) k at_seat refl).mine))) ok)
            (at_set s.views seat j (lone f' k') v at_v);
        apart = λ j i i' v x x' at_v at_x at_x' e. ⊎_elim
            (λ (t : (j ≡ seat) × (lone f' k' ≡ v)).
            (alone_in views' seat f' k' here v i x (here ∙ ap some t.1) at_x).0
            ∙ sym (alone_in views' seat f' k' here v i' x' (here ∙ ap some t.1) at_x').0)
            (λ (t : (j ≢ seat) × (get_elem? s.views j ≡ some v)).
            r.apart j i i' v x x' t.1 at_x at_x' e)
            (at_set s.views seat j (lone f' k') v at_v);
        all_found = λ m listed.
            let found = r.all_found m listed in
            dite (ℕ_discrete (r.owner m) seat)
            (λ e. let one = alone_in s.views seat f k at_seat found.view found.place found.pass
            (ap (get_elem? s.views) (sym e) ∙ found.seated) found.placed in record {
              view = lone f' k';
              place = 0;
              pass = k';
              seated = ap (get_elem? views') e ∙ here;
              placed = refl;
              named = number ∙ (ap (λ (x : K). x.number) one.1 ∙ found.named);
            })
            (λ other. record {
              view = found.view;
              place = found.place;
              pass = found.pass;
              seated = set_else s.views seat (r.owner m) (lone f' k') other ∙ found.seated;
              placed = found.placed;
              named = found.named;
            });
        counted = r.counted ∙ sym long;
        grown = grown;
      }
