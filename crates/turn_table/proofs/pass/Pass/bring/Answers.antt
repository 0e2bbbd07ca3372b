use Rattle.std.proofs.Common.{rules, ◌<◌, sym, ap, ◌∙◌, subst, arith}
use Rattle.atomic_table.specs.Table.{turned}
use Rattle.turn_table.specs.Carried.{emptied, times}
use Rattle.turn_table.specs.Knowledge.{lone}
use Rattle.turn_table.proofs.CarriedLemmas.{before, before-turned, begins_with, emptied-turned, held-turned, times-turned}
use Rattle.turn_table.proofs.KnowledgeLemmas.{faults_long, held_same, wide_same}
use Rattle.turn_table.proofs.pass.Pass.bring.Goals as goal

pub returns-then-first-cell-clause-front : goal.returns-then-first-cell-clause-front
returns-then-first-cell-clause-front g c =
    let p = c.loop-first.self in
    begins_with c.args.cell c.in-Some.first.now p.held.items c.loop-first.invariant.held
    (search rules) c.if-first-cell.true

pub loop-first-smaller : goal.loop-first-smaller
loop-first-smaller g c =
    let p = c.loop-first.self in
    subst (λ xs. before c.args.cell xs < before c.args.cell p.held.items)
    (sym c.rotate_left.ensures.items)
    (before-turned c.args.cell c.in-Some.first.now p.held.items c.loop-first.invariant.held
    (search rules) c.if-first-cell.false)

pub loop-first-preserved : goal.loop-first-preserved
loop-first-preserved g c =
    let p = c.loop-first.self in let inv = c.loop-first.invariant in record {
      held = subst (λ n. 0 < n) (sym (times-turned c.args.cell p.held.items)
          ∙ ap (times c.args.cell)
          (sym c.rotate_left.ensures.items)) inv.held;
      known = ap (λ m. m.0) c.turn.ensures.2 ∙ inv.known;
      table = c.turn.ensures.0 ∙ inv.table;
    }

pub invariant_of-self : goal.invariant_of-self
invariant_of-self g c =
    let p = c.loop-first.self in let view = ap (λ m. m.0) c.turn.ensures.2 in
    let table = c.turn.ensures.0 in let items = c.rotate_left.ensures.items in record {
      alone = view ∙ (p.alone ∙ ap (λ v. lone v.faults v.pass) (sym view));
      named = ap (λ v. v.pass.number) view ∙ p.named;
      wide = wide_same _ _ _ _ view table p.wide;
      noted = faults_long _ _ _ _ view table p.noted;
      carried = ap (λ m. m.1) c.turn.ensures.2 ∙ (ap turned p.carried
          ∙ (emptied-turned p.held.items
          ∙ ap emptied (sym items)));
      counted = held_same _ _ _ _ view items
          (held-turned p.held.items p.seat.me.0.pass.hand p.counted);
      roomy = (let r = p.roomy in let e = ap (λ z. z.slots) table in
          let cap = c.rotate_left.ensures.capacity in omega (arith, r, e, cap));
    }
