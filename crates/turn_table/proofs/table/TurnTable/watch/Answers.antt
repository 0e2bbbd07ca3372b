use Rattle.std.proofs.Common.{ap, refl, ◌∙◌, arith}
use Rattle.turn_table.proofs.KnowledgeLemmas.{alone_of, faults_long, faults_of, held_same, pass_of, wide_same}
use Rattle.turn_table.proofs.WatchLemmas.{watches}
use Rattle.turn_table.proofs.table.TurnTable.watch.Goals as goal

pub load-requires : goal.load-requires
load-requires g c =
    let T = g.C.CellState in let t = c.args.self.now in let p = c.args.pass.now in
    let words = t.words in (
      c.requires,
      omega (arith, words),
      watches T.about T.history T.writer T.law T.tells T.settled T.is_shut T.fault_count _ _ _ _ _
          p.seat.me p.seat.me.0.faults
          p.seat.me.0.pass p.alone 0,
    )

pub invariant_of-pass : goal.invariant_of-pass
invariant_of-pass g c =
    let p = c.args.pass.now in
    let told = c.load.ensures.2 p.seat.me.0.faults p.seat.me.0.pass p.alone in
    let is = ap (λ m. m.0) told.0 ∙ p.alone in let table = c.load.ensures.0 in record {
      alone = alone_of _ _ _ is;
      named = ap (λ k. k.number) (pass_of _ _ _ is) ∙ p.named;
      wide = wide_same _ _ _ _ is table p.wide;
      noted = faults_long _ _ _ _ is table p.noted;
      carried = ap (λ m. m.1) told.0 ∙ p.carried;
      counted = held_same _ _ _ _ is refl p.counted;
      roomy = (let r = p.roomy in let e = ap (λ z. z.slots) table in omega arith);
    }

pub returns : goal.returns
returns g c =
    let p = c.args.pass.now in
    let told = c.load.ensures.2 p.seat.me.0.faults p.seat.me.0.pass p.alone in record {
      own = c.load.ensures.0;
      known = pass_of _ _ _ (ap (λ m. m.0) told.0 ∙ p.alone);
      watched = told.1;
      faults = faults_of _ _ _ (ap (λ m. m.0) told.0 ∙ p.alone);
    }
