-- Passes are gathered in one seat, and the table is closed.
use Rattle.std.proofs.Common.{ℕ, ◌+◌, ◌≡◌, ◌≢◌, ◌⊎◌, ◌<◌, Bool, List, [], ◌++◌, length, set, sym, ap, ◌∙◌, subst, ⊎_elim, inl, inr, arith, Option}
use mathlib.Core.Logic.{dite}
use mathlib.Core.Option.{some, some-injective, some-ne-none}
use native.Mathlib.Decide.{ℕ_discrete}
use lib.ListN.{get_elem?}
use Rattle.atomic_table.specs.Table.{Joins, State}
use Rattle.atomic_table.proofs.Lists.{at_longer, at_set, set_else, set_here}
use Rattle.turn_table.specs.declared.knowledge.Known.{Known}
use Rattle.turn_table.specs.declared.knowledge.View.{View}
use Rattle.turn_table.specs.Knowledge.{dealt, passes_of, IsFree}
use Rattle.turn_table.specs.Rule.{IsPass, Kept}
use Rattle.turn_table.proofs.DealLemmas.{cell_keeps, held_moves, reseat, Has}
use Rattle.turn_table.proofs.KnowledgeLemmas.{idle, in_dealt, of_dealt}
use Rattle.turn_table.proofs.ListLemmas.{behind, inside, sends, sends_else, sends_here, split_at}

module _ {C A E : Type 0} (about : C → A) (history : C → List E) (writer : E → ℕ)
    (law : List A → List (List E) → Type 0)
    (tells : List A → ℕ → List (List E) → List (List E) → Type 0) (settled : C → Type 0)
    (is_shut : C → Bool) (fault_count : C → ℕ)
    (abouts : List A) (start : List (List E)) (numbers : List ℕ) where
  abbrev K : Type 0
  K = Known A E

  abbrev W : Type 0
  W = View A E

  abbrev Rule : State (Option C) W → Type 0
  Rule = Kept about history writer law tells settled is_shut fault_count abouts start numbers

  -- the passes of another seat are taken in
  pub gathers : (id : ℕ) (v : W) (other : ℕ) (w : W)
      → ((i : ℕ) (x : K) → get_elem? (passes_of v) i ≡ some x → IsFree x)
      → ((i : ℕ) (x : K) → get_elem? (passes_of w) i ≡ some x → IsFree x)
      → Joins Rule id v other w (dealt (passes_of v ++ passes_of w)) (dealt [])
  gathers id v other w free_v free_w s r at_id apart at_other' =
      let b : List K = passes_of v ++ passes_of w in let vw : W = dealt b in
      let none_left : W = dealt [] in
      let mid : List W = set s.views id vw in
      let views' : List W = set mid other none_left in
      let at_other : get_elem? s.views other ≡ some w =
      sym (set_else s.views id other vw apart) ∙ at_other' in
      let low = inside s.views id v at_id in
      let apart' : id ≢ other = λ e. apart (sym e) in
      let there : (j : ℕ) (l : W) → j ≢ id → j ≢ other → get_elem? s.views j ≡ some l
      → get_elem? views' j ≡ some l = λ j l p q e.
      set_else mid other j none_left q ∙ (set_else s.views id j vw p ∙ e) in
      let there_id : get_elem? views' id ≡ some vw =
      set_else mid other id none_left apart' ∙ set_here s.views id vw low in
      let owner' : ℕ → ℕ = sends id other r.owner in
      let P : ℕ → K → W → Type 0 = λ i x z. get_elem? (passes_of z) i ≡ some x in
      let of_v : (j : ℕ) (l : W) → j ≡ id → get_elem? s.views j ≡ some l → l ≡ v = λ j l e at_j.
      some-injective l v (sym at_j ∙ (ap (get_elem? s.views) e ∙ at_id)) in
      let of_w : (j : ℕ) (l : W) → j ≡ other → get_elem? s.views j ≡ some l → l ≡ w =
      λ j l e at_j. some-injective l w (sym at_j ∙ (ap (get_elem? s.views) e ∙ at_other)) in
      let first : (i : ℕ) (x : K) → P i x v → P i x vw = λ i x e.
      in_dealt b i x (at_longer (passes_of v) (passes_of w) i x e) in
      let second : (i : ℕ) (x : K) → P i x w → P (length (passes_of v) + i) x vw = λ i x e.
      in_dealt b (length (passes_of v) + i) x (behind (passes_of v) (passes_of w) i x e) in
      let moved : (Q : K → Type 0) (j i : ℕ) (l : W) (x : K) → get_elem? s.views j ≡ some l
      → get_elem? (passes_of l) i ≡ some x → Q x → Has Q views' = λ Q j i l x at_j at_i p.
      dite (ℕ_discrete j id)
      (λ e. (id, i, vw, x, there_id, first i x (subst (P i x) (of_v j l e at_j) at_i), p))
      (λ ne. dite (ℕ_discrete j other)
      (λ e. (
        id,
        length (passes_of v) + i,
        vw,
        x,
        there_id,
        second i x (subst (P i x) (of_w j l e at_j) at_i),
        p,
      ))
      (λ nf. (j, i, l, x, there j l ne nf at_j, at_i, p))) in
      let InFirst : ℕ → K → Type 0 = λ i x.
      (i < length (passes_of v)) × (get_elem? (passes_of v) i ≡ some x) in
      let InSecond : ℕ → K → Type 0 = λ i x.
      (q : ℕ) × (q + length (passes_of v) ≡ i) × (get_elem? (passes_of w) q ≡ some x) in
      let Spent : ℕ → W → Type 0 = λ j l. (j ≡ other) × (none_left ≡ l) in
      let InMid : ℕ → W → Type 0 = λ j l. (j ≢ other) × (get_elem? mid j ≡ some l) in
      let Mine : ℕ → W → Type 0 = λ j l. (j ≡ id) × (vw ≡ l) in
      let Other : ℕ → W → Type 0 = λ j l. (j ≢ id) × (get_elem? s.views j ≡ some l) in
      record {
        histories = r.histories;
        owner = owner';
        holder = r.holder;
        lawful = r.lawful;
        wide = r.wide;
        deep = r.deep;
        each_cell = λ c l. cell_keeps about history settled is_shut fault_count abouts
            r.histories s.words s.homes s.views views' c (held_moves s.views views' c moved)
            (r.each_cell c l);
        each_pass = λ j i l x at_j at_i. ⊎_elim
            (λ (t : Spent j l). absurd (some-ne-none x (sym (subst (P i x) (sym t.1) at_i))))
            (λ (t : InMid j l). ⊎_elim
            (λ (u : Mine j l). subst (λ (n : ℕ). IsPass writer tells abouts start numbers
            r.histories owner' r.holder s.words l.faults n x) (sym u.0) (⊎_elim
            (λ (z : InFirst i x).
            let ok = r.each_pass id i v x at_id z.1 in
            reseat writer tells abouts start numbers r.histories r.owner owner' r.holder s.words
            v.faults l.faults id id x (sends_else id other r.owner x.number
            (λ e. apart' (sym ok.mine ∙ e)) ∙ ok.mine)
            (λ c h held. absurd (idle x (free_v i x z.1) c h held)) ok)
            (λ (z : InSecond i x).
            let ok = r.each_pass other z.0 w x at_other z.2 in
            reseat writer tells abouts start numbers r.histories r.owner owner' r.holder s.words
            w.faults l.faults other id x (sends_here id other r.owner x.number ok.mine)
            (λ c h held. absurd (idle x (free_w z.0 x z.2) c h held)) ok)
            (split_at (passes_of v) (passes_of w) i x (of_dealt b l i x u.1 at_i))))
            (λ (u : Other j l).
            let ok = r.each_pass j i l x u.1 at_i in
            reseat writer tells abouts start numbers r.histories r.owner owner' r.holder s.words
            l.faults l.faults j j x
            (sends_else id other r.owner x.number (λ e. t.0 (sym ok.mine ∙ e)) ∙ ok.mine)
            ok.noted ok)
            (at_set s.views id j vw l t.1))
            (at_set mid other j none_left l at_j);
        apart = λ j i i' l x x' at_j at_i at_i' e. ⊎_elim
            (λ (t : Spent j l). absurd (some-ne-none x (sym (subst (P i x) (sym t.1) at_i))))
            (λ (t : InMid j l). ⊎_elim
            (λ (u : Mine j l). one_place s r at_id at_other i i' x x' e
            (split_at (passes_of v) (passes_of w) i x (of_dealt b l i x u.1 at_i))
            (split_at (passes_of v) (passes_of w) i' x' (of_dealt b l i' x' u.1 at_i')))
            (λ (u : Other j l). r.apart j i i' l x x' u.1 at_i at_i' e)
            (at_set s.views id j vw l t.1))
            (at_set mid other j none_left l at_j);
        all_found = λ m listed.
            let f = r.all_found m listed in let n : ℕ = r.owner m in
            dite (ℕ_discrete n other)
            (λ e. record {
              view = vw;
              place = length (passes_of v) + f.place;
              pass = f.pass;
              seated = ap (get_elem? views') (sends_here id other r.owner m e) ∙ there_id;
              placed = second f.place f.pass
                  (subst (P f.place f.pass) (of_w n f.view e f.seated) f.placed);
              named = f.named;
            })
            (λ nf. let seat = sends_else id other r.owner m nf in dite (ℕ_discrete n id)
            (λ e. record {
              view = vw;
              place = f.place;
              pass = f.pass;
              seated = ap (get_elem? views') (seat ∙ e) ∙ there_id;
              placed = first f.place f.pass
                  (subst (P f.place f.pass) (of_v n f.view e f.seated) f.placed);
              named = f.named;
            })
            (λ ne. record {
              view = f.view;
              place = f.place;
              pass = f.pass;
              seated = ap (get_elem? views') seat ∙ there n f.view ne nf f.seated;
              placed = f.placed;
              named = f.named;
            }));
        counted = r.counted;
        grown = r.grown;
      }
    where
      one_place : (s : State (Option C) W) (r : Rule s) → get_elem? s.views id ≡ some v
          → get_elem? s.views other ≡ some w → (i i' : ℕ) (x x' : K) → x.number ≡ x'.number
          → ((i < length (passes_of v)) × (get_elem? (passes_of v) i ≡ some x))
          ⊎ ((q : ℕ) × (q + length (passes_of v) ≡ i) × (get_elem? (passes_of w) q ≡ some x))
          → ((i' < length (passes_of v)) × (get_elem? (passes_of v) i' ≡ some x'))
          ⊎ ((q : ℕ) × (q + length (passes_of v) ≡ i') × (get_elem? (passes_of w) q ≡ some x'))
          → i ≡ i'
      one_place s r a b i i' x x' e (inl t) (inl u) = r.apart id i i' v x x' a t.1 u.1 e
      one_place s r a b i i' x x' e (inr t) (inr u) =
          let same = r.apart other t.0 u.0 w x x' b t.2 u.2 e in
          let t₁ = t.1 in let u₁ = u.1 in omega arith
      one_place s r a b i i' x x' e (inl t) (inr u) =
          absurd (apart (sym (r.each_pass other u.0 w x' b u.2).mine
          ∙ (ap r.owner (sym e) ∙ (r.each_pass id i v x a t.1).mine)))
      one_place s r a b i i' x x' e (inr t) (inl u) =
          absurd (apart (sym (r.each_pass other t.0 w x b t.2).mine
          ∙ (ap r.owner e ∙ (r.each_pass id i' v x' a u.1).mine)))
