-- Counts of looks and of faults: none falls, and one that is counted rises.
use Rattle.std.proofs.Common.{◌≡◌, ◌≢◌, ℕ, zero, suc, ◌+◌, ◌<◌, ◌≤◌, ◌==◌, cond, List, [], ◌∷◌, get_or, refl, sym, ap, ◌∙◌, arith, add-zero, inl, inr}
use Rattle.std.proofs.lemmas.Bool.Decides.{eqb_tells}
use Rattle.exchange_rules.specs.Accesses.{one_more}
use Rattle.exchange_rules.specs.Following.{Faults, AreNoFewer}

-- one more is counted at this cell
one_more_same : (c : ℕ) (ns : List ℕ) → get_or (one_more c ns) c 0 ≡ get_or ns c 0 + 1
one_more_same zero [] = refl
one_more_same (suc c) [] = one_more_same c []
one_more_same zero (n ∷ ns) = refl
one_more_same (suc c) (n ∷ ns) = one_more_same c ns

-- and at no other
one_more_other : (c d : ℕ) (ns : List ℕ) → c ≢ d → get_or (one_more c ns) d 0 ≡ get_or ns d 0
one_more_other zero zero ns n = absurd (n refl)
one_more_other zero (suc d) [] n = refl
one_more_other (suc c) zero [] n = refl
one_more_other (suc c) (suc d) [] n = one_more_other c d [] (λ e. n (ap suc e))
one_more_other zero (suc d) (k ∷ ns) n = refl
one_more_other (suc c) zero (k ∷ ns) n = refl
one_more_other (suc c) (suc d) (k ∷ ns) n = one_more_other c d ns (λ e. n (ap suc e))

-- one more look at a cell is counted there
pub one_more_at : (c d : ℕ) (ns : List ℕ)
    → get_or (one_more c ns) d 0 ≡ get_or ns d 0 + cond (c == d) 1 0
one_more_at c d ns =
    elim (eqb_tells c d) [
      | inl w ↦ ap (λ x. get_or (one_more c ns) x 0) (sym w.1)
          ∙ (one_more_same c ns ∙ (ap (λ x. get_or ns x 0 + 1) w.1
          ∙ ap (λ b. get_or ns d 0 + cond b 1 0) (sym w.0)))
      | inr w ↦ one_more_other c d ns w.1
          ∙ (sym (add-zero (get_or ns d 0)) ∙ ap (λ b. get_or ns d 0 + cond b 1 0) (sym w.0))
    ]

-- no count falls by one more
one_more_grows : (c d : ℕ) (ns : List ℕ) → get_or ns d 0 ≤ get_or (one_more c ns) d 0
one_more_grows c d ns = omega (arith, one_more_at c d ns)

-- and that of the cell rises
pub one_more_rises : (c : ℕ) (ns : List ℕ) → get_or ns c 0 < get_or (one_more c ns) c 0
one_more_rises c ns = omega (arith, one_more_same c ns)

-- where nothing was met
pub no_fewer_same : (f : Faults) → AreNoFewer f f
no_fewer_same f = record { barred = λ c. omega arith; broke = λ c. omega arith }

-- one time after another
pub no_fewer_join : (f g h : Faults) → AreNoFewer f g → AreNoFewer g h → AreNoFewer f h
no_fewer_join f g h a b = record {
  barred = λ c. omega (arith, a.barred c, b.barred c);
  broke = λ c. omega (arith, a.broke c, b.broke c);
}

-- a cell that was found closed
pub barred_no_fewer : (f : Faults) (c : ℕ)
    → AreNoFewer f (record f { barred = one_more c f.barred })
barred_no_fewer f c =
    record { barred = λ d. one_more_grows c d f.barred; broke = λ d. omega arith }

-- a log's fault that was noted
pub broken_no_fewer : (f : Faults) (c : ℕ)
    → AreNoFewer f (record f { broke = one_more c f.broke })
broken_no_fewer f c =
    record { barred = λ d. omega arith; broke = λ d. one_more_grows c d f.broke }
