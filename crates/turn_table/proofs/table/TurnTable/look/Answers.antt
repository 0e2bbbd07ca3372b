use Rattle.std.proofs.Common.{sym, refl, ap, ◌∙◌, subst, arith}
use Rattle.turn_table.specs.Calls.{history_in}
use Rattle.turn_table.specs.Histories.{at}
use Rattle.turn_table.specs.Knowledge.{hand}
use Rattle.turn_table.specs.Steps.{Glimpse}
use Rattle.turn_table.proofs.CarriedLemmas.{in_range}
use Rattle.turn_table.proofs.KnowledgeLemmas.{alone_of, faults_long, faults_of, held_same, pass_of, seen-looked, wide-looked, wide_same}
use Rattle.turn_table.proofs.LookLemmas.{sees}
use Rattle.turn_table.proofs.table.TurnTable.look.Goals as goal

pub load-requires : goal.load-requires
load-requires g c =
    let T = g.C.CellState in let t = c.args.self.now in let p = c.args.pass.now in
    let words = t.words in let slots = t.slots in let own = ap (λ z. z.slots) c.requires.own in
    let k = p.seat.me.0.pass in
    let entries = history_in T.history c.args.turn.now.value in
    let width = p.wide.hand in
    let low = in_range k.hand c.args.turn.now.cell entries c.requires.turn in (
      c.requires.own,
      omega (arith, words, slots, own, width, low),
      sees T.about T.history T.writer T.law T.tells T.settled T.is_shut T.fault_count _ _ _ _ _
          p.seat.me p.seat.me.0.faults k p.alone
          c.args.turn.now.cell (omega (arith, own, width, low)) entries c.requires.turn
          g.met.C.CellState.looks,
    )

pub invariant_of-pass : goal.invariant_of-pass
invariant_of-pass g c =
    let T = g.C.CellState in let p = c.args.pass.now in
    let entries = history_in T.history c.args.turn.now.value in
    let told = c.load.ensures.2 c.args.turn.now.cell p.seat.me.0.faults p.seat.me.0.pass entries
    refl
    p.alone c.requires.turn in
    let is = ap (λ m. m.0) told.0 in let table = c.load.ensures.0 in record {
      alone = alone_of _ _ _ is;
      named = ap (λ k. k.number) (pass_of _ _ _ is) ∙ p.named;
      wide = wide_same _ _ _ _ is table
          (wide-looked p.seat.me.0.pass c.args.turn.now.cell p.seat.table_id.slots p.wide entries);
      noted = faults_long _ _ _ _ is table p.noted;
      carried = ap (λ m. m.1) told.0 ∙ p.carried;
      counted = held_same _ _ _ _ is refl p.counted;
      roomy = (let r = p.roomy in let e = ap (λ z. z.slots) table in omega arith);
    }

pub returns : goal.returns
returns g c =
    let T = g.C.CellState in let p = c.args.pass.now in let k = p.seat.me.0.pass in
    let cell = c.args.turn.now.cell in
    let entries = history_in T.history c.args.turn.now.value in
    let told = c.load.ensures.2 cell p.seat.me.0.faults k entries refl p.alone c.requires.turn in
    let is = pass_of _ _ _ (ap (λ m. m.0) told.0) in
    let width = p.wide.hand in let low = in_range k.hand cell entries c.requires.turn in record {
      own = c.load.ensures.0;
      looked = is;
      holds = ap (λ x. hand x cell) is ∙ c.requires.turn;
      seen = ap (λ x. at x.seen cell) is
          ∙ seen-looked k cell p.seat.table_id.slots p.wide (omega (arith, width, low)) entries;
      others = told.2;
      glimpse = subst (Glimpse T.about T.history T.writer T.law T.tells T.settled T.is_shut
          T.fault_count
          cell) (sym is) told.3;
      faults = faults_of _ _ _ (ap (λ m. m.0) told.0);
    }
