-- What the rule says of a moment between two steps.
use Rattle.std.proofs.Common.{ℕ, ◌+◌, ◌*◌, ◌≡◌, Bool, List, get_or, sym, ap, ◌∙◌, subst, ⊎_elim, inl, inr, arith, Option}
use mathlib.Core.Option.{some, some-injective}
use lib.ListN.{get_elem?}
use Rattle.atomic_table.specs.Table.{State}
use Rattle.turn_table.specs.declared.knowledge.View.{View}
use Rattle.turn_table.specs.Histories.{at}
use Rattle.turn_table.specs.Knowledge.{passes_of}
use Rattle.turn_table.specs.Moments.{IsMoment}
use Rattle.turn_table.specs.Rule.{IsClosed, IsHeld, IsOpen, Kept}

module _ {C A E : Type 0} (about : C → A) (history : C → List E) (writer : E → ℕ)
    (law : List A → List (List E) → Type 0)
    (tells : List A → ℕ → List (List E) → List (List E) → Type 0) (settled : C → Type 0)
    (is_shut : C → Bool) (fault_count : C → ℕ)
    (abouts : List A) (start : List (List E)) (numbers : List ℕ)
    (s : State (Option C) (View A E))
    (r : Kept about history writer law tells settled is_shut fault_count abouts start numbers s)
  where
    -- who holds a turn has the history in hand, and the turn word is 1
    holder_of : (c : ℕ) (h : IsHeld s.views c)
        → (r.holder c ≡ h.pass.number) × (get_or s.words (3 * c + 1) 0 ≡ 1)
        × (at r.histories c ≡ h.history)
    holder_of c h = let t = (r.each_pass h.seat h.place h.view h.pass h.seated h.placed).hands c
        h.history h.holds in (t.1, t.2, t.3)

    -- one pass at a time holds it
    one_holder : (c : ℕ) (h h' : IsHeld s.views c) → (h.seat ≡ h'.seat) × (h.place ≡ h'.place)
    one_holder c h h' =
        let named : h.pass.number ≡ h'.pass.number =
        sym (holder_of c h).0 ∙ (holder_of c h').0 in
        let ok = r.each_pass h.seat h.place h.view h.pass h.seated h.placed in
        let ok' = r.each_pass h'.seat h'.place h'.view h'.pass h'.seated h'.placed in
        let seat : h.seat ≡ h'.seat = sym ok.mine ∙ (ap r.owner named ∙ ok'.mine) in
        let view : h.view ≡ h'.view = some-injective h.view h'.view
        (sym h.seated ∙ (ap (get_elem? s.views) seat ∙ h'.seated)) in (
          seat,
          r.apart h'.seat h.place h'.place h'.view h.pass h'.pass h'.seated
              (subst (λ (v : View A E). get_elem? (passes_of v) h.place ≡ some h.pass) view h.placed)
              h'.placed named,
        )

    pub moment_of : IsMoment about history law settled is_shut fault_count abouts s
    moment_of = record {
      histories = r.histories;
      lawful = r.lawful;
      wide = r.wide;
      deep = r.deep;
      length_word = λ c l. (r.each_cell c l).long;
      turn_word = λ c l. ⊎_elim
          (λ (t : (get_or s.words (3 * c + 1) 0 ≡ 0)
          × IsOpen about history settled is_shut fault_count abouts s.homes (at r.histories c)
          (get_or s.words (3 * c + 3) 0) c).
          inl (t.0, t.1, λ h. let one = (holder_of c h).1 in let zero_is = t.0 in omega arith))
          (⊎_elim
          (λ (t : (get_or s.words (3 * c + 1) 0 ≡ 1) × IsHeld s.views c). inr (inl t))
          (λ (t : (get_or s.words (3 * c + 1) 0 ≡ 2)
          × IsClosed about history settled is_shut fault_count abouts s.homes (at r.histories c)
          (get_or s.words (3 * c + 3) 0) c).
          inr (inr
          (t.0, t.1, λ h. let one = (holder_of c h).1 in let two_is = t.0 in omega arith))))
          (r.each_cell c l).turn;
      one_holder = one_holder;
      in_hand = λ c h. sym (holder_of c h).2;
    }
