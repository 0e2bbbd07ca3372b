use Rattle.std.proofs.Common.{◌≡◌, ◌<◌, get_or, length, set, sym, refl, ap, ◌∙◌, arith, Some, length-set, get_or-set_same}
use Rattle.turn_table.specs.Calls.{faults_in, history_in}
use Rattle.turn_table.specs.Knowledge.{hand, noted}
use Rattle.turn_table.proofs.CarriedLemmas.{in_range}
use Rattle.turn_table.proofs.KnowledgeLemmas.{alone_of, faults_long, faults_of, held_same, pass_of, wide-noted, wide_same}
use Rattle.turn_table.proofs.NoteLemmas.{notes}
use Rattle.turn_table.proofs.table.TurnTable.note.Goals as goal

pub swap-requires : goal.swap-requires
swap-requires g c =
    let T = g.C.CellState in let t = c.args.self.now in let p = c.args.pass.now in
    let words = t.words in let slots = t.slots in let own = ap (λ z. z.slots) c.requires.own in
    let k = p.seat.me.0.pass in let cell = c.args.turn.now.cell in
    let entries = history_in T.history c.args.turn.now.value in
    let width = p.wide.hand in let long = p.noted in
    let low = in_range k.hand cell entries c.requires.turn in (
      c.requires.own,
      omega (arith, words, slots, own, width, low),
      notes T.about T.history T.writer T.law T.tells T.settled T.is_shut T.fault_count _ _ _ _ _
          p.seat.me p.seat.me.0.faults k p.alone cell (omega (arith, own, width, low))
          (omega (arith, long, width, low)) entries c.requires.turn _,
    )

pub invariant_of-pass : goal.invariant_of-pass
invariant_of-pass g c =
    let T = g.C.CellState in let p = c.args.pass.now in let k = p.seat.me.0.pass in
    let f = p.seat.me.0.faults in let cell = c.args.turn.now.cell in
    let n = c.faults-faults.result in
    let told = c.swap.ensures.2 cell f k (history_in T.history c.args.turn.now.value) refl p.alone
    c.requires.turn in
    let is = ap (λ m. m.0) told in let table = c.swap.ensures.0 in record {
      alone = alone_of _ _ _ is;
      named = ap (λ x. x.number) (pass_of _ _ _ is) ∙ p.named;
      wide = wide_same _ _ _ _ is table
          (wide-noted k cell p.seat.table_id.slots p.wide (get_or f cell 0) n);
      noted = faults_long _ _ _ _ is table (length-set f cell n ∙ p.noted);
      carried = ap (λ m. m.1) told ∙ p.carried;
      counted = held_same _ _ _ _ is refl p.counted;
      roomy = (let r = p.roomy in let e = ap (λ z. z.slots) table in omega (arith, r, e));
    }

pub returns : goal.returns
returns g c =
    let T = g.C.CellState in let p = c.args.pass.now in let k = p.seat.me.0.pass in
    let f = p.seat.me.0.faults in let cell = c.args.turn.now.cell in
    let n = c.faults-faults.result in
    let told = c.swap.ensures.2 cell f k (history_in T.history c.args.turn.now.value) refl p.alone
    c.requires.turn in
    let is = ap (λ m. m.0) told in
    let count : n ≡ faults_in T.fault_count c.args.turn.now.value = c.faults-faults.ensures
    ∙ sym (ap (faults_in T.fault_count) c.state.ensures) in
    let width = p.wide.hand in let long = p.noted in
    let low = in_range k.hand cell _ c.requires.turn in
    let now = pass_of _ _ _ is ∙ ap (λ m. noted cell (get_or f cell 0) m k) count in
    let words = faults_of _ _ _ is ∙ ap (set f cell) count in record {
      own = c.swap.ensures.0;
      turn = refl;
      noted = now;
      holds = ap (λ x. hand x cell) now ∙ c.requires.turn;
      faults = (
        ap (λ l. get_or l cell 0) words
            ∙ get_or-set_same f cell _ 0 (omega (arith, long, width, low)),
        words,
      );
    }
