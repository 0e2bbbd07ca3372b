-- Passes are dealt out to seats.
use Rattle.std.proofs.Common.{ℕ, zero, suc, ◌+◌, ◌*◌, ◌≡◌, ◌≢◌, ◌<◌, Bool, List, [], ◌∷◌, ◌++◌, length, get_or, set, sym, refl, ap, ◌∙◌, subst, ⊎_elim, inl, inr, arith, map, Option, Some, None, length-set}
use mathlib.Core.Logic.{dite}
use mathlib.Core.Option.{some, some-injective, some-ne-none}
use mathlib.Core.Option as place
use native.Mathlib.Decide.{ℕ_discrete}
use lib.ListN.{get_elem?}
use Rattle.atomic_table.specs.Table.{Splits, State}
use Rattle.atomic_table.proofs.Lists.{at_last, at_longer, at_set, set_else, set_here}
use Rattle.turn_table.specs.declared.knowledge.Known.{Known}
use Rattle.turn_table.specs.declared.knowledge.View.{View}
use Rattle.turn_table.specs.Histories.{at}
use Rattle.turn_table.specs.Knowledge.{blank, dealt, fresh, hand, lone, passes_of, IsFree}
use Rattle.turn_table.specs.Rule.{HasPass, IsCell, IsClosed, IsHeld, IsOpen, IsPass, Kept}
use Rattle.turn_table.proofs.CarriedLemmas.{get_or-replicate}
use Rattle.turn_table.proofs.KnowledgeLemmas.{idle, in_dealt, of_dealt}
use Rattle.turn_table.proofs.ListLemmas.{inside, only, put, put_else, put_here, split_at}

module _ {A E : Type 0} where
  -- some seat has a pass that meets P
  abbrev pub Has : (Known A E → Type 0) → List (View A E) → Type 0
  Has P views = (j i : ℕ) × (v : View A E) × (x : Known A E) × (get_elem? views j ≡ some v)
      × (get_elem? (passes_of v) i ≡ some x) × P x

  -- a turn stays held where its pass moves to another seat
  pub held_moves : (views later : List (View A E)) (c : ℕ)
      → ((P : Known A E → Type 0) (j i : ℕ) (v : View A E) (x : Known A E)
      → get_elem? views j ≡ some v → get_elem? (passes_of v) i ≡ some x → P x
      → Has P later)
      → IsHeld views c → IsHeld later c
  held_moves views later c moved h =
      let m = moved (λ x. hand x c ≡ Some h.history) h.seat h.place h.view h.pass h.seated
      h.placed h.holds in record {
        seat = m.0;
        view = m.2;
        place = m.1;
        pass = m.3;
        history = h.history;
        seated = m.4;
        placed = m.5;
        holds = m.6;
      }

-- new passes hold no turn
pub free-fresh : {A E : Type 0} (about : List A) (start : List (List E)) (numbers : List ℕ)
    (count : ℕ) (ms : List ℕ) (i : ℕ) (x : Known A E)
    → get_elem? (map (fresh about start numbers count) ms) i ≡ some x → IsFree x
free-fresh about start numbers count [] i x e = absurd (some-ne-none x (sym e))
free-fresh {A} {E} about start numbers count (m ∷ ms) zero x e = λ cell.
    ap (λ (k : Known A E). hand k cell)
    (sym (some-injective (fresh about start numbers count m) x e))
    ∙ get_or-replicate count cell None
free-fresh about start numbers count (m ∷ ms) (suc i) x e =
    free-fresh about start numbers count ms i x e

-- a cell stays as it is where passes move to other seats
pub cell_keeps : {C A E : Type 0} (about : C → A) (history : C → List E) (settled : C → Type 0)
    (is_shut : C → Bool) (fault_count : C → ℕ) (abouts : List A) (histories : List (List E))
    (words : List ℕ) (homes : List (place.Option (Option C))) (views later : List (View A E))
    (c : ℕ) → (IsHeld views c → IsHeld later c)
    → IsCell about history settled is_shut fault_count abouts histories words homes views c
    → IsCell about history settled is_shut fault_count abouts histories words homes later c
cell_keeps about history settled is_shut fault_count abouts histories words homes views later c
    held ok = record {
      long = ok.long;
      turn = ⊎_elim
          (λ (t : (get_or words (3 * c + 1) 0 ≡ 0)
          × IsOpen about history settled is_shut fault_count abouts homes (at histories c)
          (get_or words (3 * c + 3) 0) c). inl t)
          (⊎_elim
          (λ (t : (get_or words (3 * c + 1) 0 ≡ 1) × IsHeld views c). inr (inl (t.0, held t.1)))
          (λ (t : (get_or words (3 * c + 1) 0 ≡ 2)
          × IsClosed about history settled is_shut fault_count abouts homes (at histories c)
          (get_or words (3 * c + 3) 0) c). inr (inr t)))
          ok.turn;
    }

-- the same pass at another seat, which knows the fault words of the turns that it holds
pub reseat : {A E : Type 0} (writer : E → ℕ)
    (tells : List A → ℕ → List (List E) → List (List E) → Type 0) (abouts : List A)
    (start : List (List E)) (numbers : List ℕ) (histories : List (List E))
    (owner owner' holder : ℕ → ℕ) (words g g' : List ℕ) (j j' : ℕ) (x : Known A E)
    → owner' x.number ≡ j'
    → ((c : ℕ) (entries : List E) → hand x c ≡ Some entries
    → get_or words (3 * c + 3) 0 ≡ get_or g' c 0)
    → IsPass writer tells abouts start numbers histories owner holder words g j x
    → IsPass writer tells abouts start numbers histories owner' holder words g' j' x
reseat writer tells abouts start numbers histories owner owner' holder words g g' j j' x mine
    noted ok = record {
      about_is = ok.about_is;
      start_is = ok.start_is;
      numbers_are = ok.numbers_are;
      listed = ok.listed;
      mine = mine;
      seen = ok.seen;
      hands = ok.hands;
      noted = noted;
      told = ok.told;
      since = ok.since;
      wide = ok.wide;
    }

module _ {C A E : Type 0} (about : C → A) (history : C → List E) (writer : E → ℕ)
    (law : List A → List (List E) → Type 0)
    (tells : List A → ℕ → List (List E) → List (List E) → Type 0) (settled : C → Type 0)
    (is_shut : C → Bool) (fault_count : C → ℕ)
    (abouts : List A) (start : List (List E)) (numbers : List ℕ) where
  abbrev K : Type 0
  K = Known A E

  abbrev W : Type 0
  W = View A E

  abbrev Rule : State (Option C) W → Type 0
  Rule = Kept about history writer law tells settled is_shut fault_count abouts start numbers

  module _ (id : ℕ) (k : K) (ks : List K)
      (free : (i : ℕ) (x : K) → get_elem? (k ∷ ks) i ≡ some x → IsFree x) where
    abbrev one_pass : W
    one_pass = lone (blank k) k

    -- the first pass gets a seat of its own
    pub deals : Splits Rule id (dealt (k ∷ ks)) (dealt ks) one_pass
    deals s r at_id =
        let n : ℕ = length s.views in
        let left : List W = set s.views id (dealt ks) in
        let views' : List W = left ++ one_pass ∷ [] in
        let owner' : ℕ → ℕ = put r.owner k.number n in
        let low = inside s.views id (dealt (k ∷ ks)) at_id in
        let wide : length left ≡ n = length-set s.views id (dealt ks) in
        let first = r.each_pass id 0 (dealt (k ∷ ks)) k at_id refl in
        let there : (j : ℕ) (v : W) → j ≢ id → get_elem? s.views j ≡ some v
        → get_elem? views' j ≡ some v = λ j v other e.
        at_longer left (one_pass ∷ []) j v (set_else s.views id j (dealt ks) other ∙ e) in
        let there_id : get_elem? views' id ≡ some (dealt ks) =
        at_longer left (one_pass ∷ []) id (dealt ks) (set_here s.views id (dealt ks) low) in
        let there_new : get_elem? views' n ≡ some (one_pass) = at_last left (one_pass) n wide in
        let moved : (P : K → Type 0) (j i : ℕ) (v : W) (x : K) → get_elem? s.views j ≡ some v
        → get_elem? (passes_of v) i ≡ some x → P x → Has P views' =
        λ P j i v x at_j at_i p. dite (ℕ_discrete j id)
        (λ e. pass_moves P views' n there_id there_new i x (of_dealt (k ∷ ks) v i x
        (some-injective (dealt (k ∷ ks)) v (sym at_id
        ∙ (ap (get_elem? s.views) (sym e) ∙ at_j))) at_i) p)
        (λ other. (j, i, v, x, there j v other at_j, at_i, p)) in
        let Old : ℕ → W → Type 0 = λ j v. (j < length left) × (get_elem? left j ≡ some v) in
        let New : ℕ → W → Type 0 = λ j v.
        (q : ℕ) × (q + length left ≡ j) × (get_elem? (one_pass ∷ []) q ≡ some v) in
        let Mine : ℕ → W → Type 0 = λ j v. (j ≡ id) × (dealt ks ≡ v) in
        let Other : ℕ → W → Type 0 = λ j v. (j ≢ id) × (get_elem? s.views j ≡ some v) in
        record {
          histories = r.histories;
          owner = owner';
          holder = r.holder;
          lawful = r.lawful;
          wide = r.wide;
          deep = r.deep;
          each_cell = λ c l. cell_keeps about history settled is_shut fault_count abouts
              r.histories s.words s.homes s.views views' c (held_moves s.views views' c moved)
              (r.each_cell c l);
          each_pass = λ j i v x at_j at_i. ⊎_elim
              (λ (t : Old j v). ⊎_elim
              (λ (u : Mine j v).
              let here = of_dealt ks v i x u.1 at_i in
              let ok = r.each_pass id (suc i) (dealt (k ∷ ks)) x at_id here in
              reseat writer tells abouts start numbers r.histories r.owner owner' r.holder s.words
              [] v.faults id j x (put_else r.owner k.number n x.number
              (λ e. let same = r.apart id (suc i) 0 (dealt (k ∷ ks)) x k at_id here refl e
              in absurd (omega arith)) ∙ (ok.mine ∙ sym u.0))
              (λ c l z. absurd (idle x (free (suc i) x here) c l z)) ok)
              (λ (u : Other j v).
              let ok = r.each_pass j i v x u.1 at_i in
              reseat writer tells abouts start numbers r.histories r.owner owner' r.holder s.words
              v.faults v.faults j j x (put_else r.owner k.number n x.number
              (λ e. u.0 (sym ok.mine ∙ (ap r.owner e ∙ first.mine))) ∙ ok.mine) ok.noted ok)
              (at_set s.views id j (dealt ks) v t.1))
              (λ (t : New j v).
              let o = only (one_pass) v t.0 t.2 in let o₀ = o.0 in let t₁ = t.1 in
              let one = only k x i (subst (λ (l : W). get_elem? (passes_of l) i ≡ some x)
              (sym o.1) at_i) in
              let at_n : n ≡ j = omega arith in
              subst (λ (z : List ℕ × (ℕ × K)). IsPass writer tells abouts start numbers r.histories
              owner' r.holder s.words z.0 z.1.0 z.1.1) (λ m. ((o.1 m).faults, (at_n m, one.1 m)))
              (reseat writer tells abouts start numbers r.histories r.owner owner' r.holder s.words
              [] (blank k) id n k (put_here r.owner k.number n)
              (λ c l z. absurd (idle k (free 0 k refl) c l z)) first))
              (split_at left (one_pass ∷ []) j v at_j);
          apart = λ j i i' v x x' at_j at_i at_i' e. ⊎_elim
              (λ (t : Old j v). ⊎_elim
              (λ (u : Mine j v).
              let same = r.apart id (suc i) (suc i') (dealt (k ∷ ks)) x x' at_id
              (of_dealt ks v i x u.1 at_i) (of_dealt ks v i' x' u.1 at_i') e in
              omega arith)
              (λ (u : Other j v). r.apart j i i' v x x' u.1 at_i at_i' e)
              (at_set s.views id j (dealt ks) v t.1))
              (λ (t : New j v).
              let o = only (one_pass) v t.0 t.2 in
              let P : ℕ → K → W → Type 0 = λ q y l. get_elem? (passes_of l) q ≡ some y in
              (only k x i (subst (P i x) (sym o.1) at_i)).0
              ∙ sym (only k x' i' (subst (P i' x') (sym o.1) at_i')).0)
              (split_at left (one_pass ∷ []) j v at_j);
          all_found = λ m listed. dite (ℕ_discrete m k.number)
              (λ e. record {
                view = one_pass;
                place = 0;
                pass = k;
                seated = ap (get_elem? views') (ap owner' e ∙ put_here r.owner k.number n)
                    ∙ there_new;
                placed = refl;
                named = sym e;
              })
              (λ new.
              let f = r.all_found m listed in
              let seat : owner' m ≡ r.owner m = put_else r.owner k.number n m new in
              dite (ℕ_discrete (r.owner m) id)
              (λ e. stays views' (owner' m) m (seat ∙ e) there_id new f.place f.pass
              (of_dealt (k ∷ ks) f.view f.place f.pass
              (some-injective (dealt (k ∷ ks)) f.view (sym at_id
              ∙ (ap (get_elem? s.views) (sym e) ∙ f.seated))) f.placed) f.named)
              (λ other. record {
                view = f.view;
                place = f.place;
                pass = f.pass;
                seated = ap (get_elem? views') seat ∙ there (r.owner m) f.view other f.seated;
                placed = f.placed;
                named = f.named;
              }));
          counted = r.counted;
          grown = r.grown;
        }
      where
        pass_moves : (P : K → Type 0) (views' : List W) (n : ℕ)
            → get_elem? views' id ≡ some (dealt ks) → get_elem? views' n ≡ some (one_pass)
            → (i : ℕ) (x : K) → get_elem? (k ∷ ks) i ≡ some x → P x → Has P views'
        pass_moves P views' n a b zero x e p =
            (n, 0, one_pass, k, b, refl, subst P (sym (some-injective k x e)) p)
        pass_moves P views' n a b (suc i) x e p = (id, i, dealt ks, x, a, in_dealt ks i x e, p)

        stays : (views' : List W) (seat m : ℕ) → seat ≡ id → get_elem? views' id ≡ some (dealt ks)
            → m ≢ k.number → (i : ℕ) (x : K) → get_elem? (k ∷ ks) i ≡ some x → x.number ≡ m
            → HasPass views' seat m
        stays views' seat m at_seat at_id new zero x e named =
            absurd (new (sym named ∙ ap (λ (z : K). z.number) (sym (some-injective k x e))))
        stays views' seat m at_seat at_id new (suc i) x e named = record {
          view = dealt ks;
          place = i;
          pass = x;
          seated = ap (get_elem? views') at_seat ∙ at_id;
          placed = in_dealt ks i x e;
          named = named;
        }
