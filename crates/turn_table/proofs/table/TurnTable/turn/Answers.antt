use Rattle.std.proofs.Common.{ℕ, zero, suc, ◌+◌, ◌≡◌, ◌≤◌, List, [], ◌∷◌, get_or, set, sym, refl, ap, ◌∙◌, arith, Err}
use Rattle.std.proofs.lemmas.List.{set-get_or}
use Rattle.turn_table.specs.Knowledge.{missed}
use Rattle.turn_table.proofs.table.TurnTable.turn.Goals as goal

-- what is written last stays
set-set : (l : List ℕ) (i a b : ℕ) → set (set l i a) i b ≡ set l i b
set-set [] i a b = refl
set-set (x ∷ xs) zero a b = refl
set-set (x ∷ xs) (suc i) a b = ap (λ l. x ∷ l) (set-set xs i a b)

-- a count that rose is no less than it was at first
rises : (l : List ℕ) (i m : ℕ) → get_or l i 0 ≤ m → get_or l i 0 ≤ get_or (set l i m) i 0 + 1
rises [] i m h = omega arith
rises (x ∷ xs) zero m h = omega arith
rises (x ∷ xs) (suc i) m h = rises xs i m h

pub loop-init : goal.loop-init
loop-init g c = let k = c.args.pass.now.seat.me.0.pass in record {
  table = refl;
  known = (
    get_or k.met c.args.cell 0,
    omega arith,
    λ i. record k { met = sym (set-get_or k.met c.args.cell 0) i },
  );
  faults = refl;
}

pub loop-preserved : goal.loop-preserved
loop-preserved g c =
    let k = c.args.pass.now.seat.me.0.pass in let inv = c.loop.invariant in
    let e = c.attempt.ensures in let m = inv.known.0 in
    let absent = e.taken (c.in-Err-Taken.is ∙ ap Err c.in-Err-Taken.field-0-is) in
    let x = get_or (set k.met c.args.cell m) c.args.cell 0 + 1 in record {
      table = e.own ∙ inv.table;
      known = (
        x,
        rises k.met c.args.cell m inv.known.1,
        absent.0 ∙ (ap (missed c.args.cell) inv.known.2
            ∙ (λ i. record k { met = set-set k.met c.args.cell m x i })),
      );
      faults = c.in-Err-Taken.ensures.same ∙ inv.faults;
    }
