use Rattle.std.proofs.Common.{◌≡◌, ◌∷◌, ◌<◌, false, get_or, length, set, sym, refl, ap, ◌∙◌, subst, arith, length-set, get_or-set_same, Some, None}
use Rattle.std.specs.Prelude.{IfSome, is_some, option_map}
use mathlib.Core.Logic.{dite}
use native.Mathlib.Decide.{ℕ_discrete}
use Rattle.atomic_table.specs.Table.{rest}
use Rattle.turn_table.specs.Calls.{faults_in, history_in}
use Rattle.turn_table.specs.Carried.{emptied}
use Rattle.turn_table.specs.Knowledge.{hand, took, IsWide}
use Rattle.turn_table.proofs.CarriedLemmas.{held-take, room_left}
use Rattle.turn_table.proofs.KnowledgeLemmas.{alone_of, faults_long, faults_of, hand-took, held_same, pass_of, wide-barred, wide-missed, wide-took, wide_same}
use Rattle.turn_table.proofs.ListLemmas.{slot_or}
use Rattle.turn_table.proofs.TryLemmas.{tries}
use Rattle.turn_table.proofs.table.TurnTable.attempt.Goals as goal

pub compare_exchange-found-requires : goal.compare_exchange-found-requires
compare_exchange-found-requires g c =
    let T = g.C.CellState in let t = c.args.self.now in let p = c.args.pass.now in
    let words = t.words in let slots = t.slots in
    let own = ap (λ z. z.slots) c.requires.own in let noted = p.noted in (
      c.requires.own,
      omega (arith, words, c.requires.cell),
      tries T.about T.history T.writer T.law T.tells T.settled T.is_shut T.fault_count _ _ _ _ _
          p.seat.me p.seat.me.0.faults p.seat.me.0.pass p.alone
          c.args.cell (omega (arith, slots, c.requires.cell))
          (omega (arith, slots, own, noted, c.requires.cell)),
    )

pub exchange-value-requires : goal.exchange-value-requires
exchange-value-requires g c =
    let p = c.args.pass.now in
    let told = (c.compare_exchange-found.ensures.2 c.args.cell p.seat.me.0.faults p.seat.me.0.pass
    refl
    p.alone).0
    c.if-found-eq0.true in (
      c.compare_exchange-found.ensures.0 ∙ c.requires.own,
      (Some told.1, told.3 ∙ ap (λ l. (c.args.cell, Some told.1) ∷ rest l) (sym told.3)),
    )

pub push_front_reserved-requires : goal.push_front_reserved-requires
push_front_reserved-requires g c =
    let p = c.args.pass.now in let t = c.args.self.now in let k = p.seat.me.0.pass in
    let told = (c.compare_exchange-found.ensures.2 c.args.cell p.seat.me.0.faults k refl p.alone).0
    c.if-found-eq0.true in
    let slots = t.slots in let own = ap (λ z. z.slots) c.requires.own in
    let width = p.wide.hand in
    let left = room_left k.hand c.args.cell
    (omega (arith, slots, own, width, c.requires.cell)) told.0 in
    let long = p.held.ok.0 in let all = p.counted.all in let room = p.roomy in
    omega (arith, left, long, all, room, width)

pub invariant_of-pass : goal.invariant_of-pass
invariant_of-pass g c =
    let T = g.C.CellState in
    let p = c.args.pass.now in let t = c.args.self.now in let k = p.seat.me.0.pass in
    let told = (c.compare_exchange-found.ensures.2 c.args.cell p.seat.me.0.faults k refl p.alone).0
    c.if-found-eq0.true in
    let ex = c.exchange-value.ensures in let push = c.push_front_reserved.ensures in
    let is = ap (λ m. m.0) ex.3 ∙ told.4 in
    let table = ex.0 ∙ c.compare_exchange-found.ensures.0 in
    let slots = t.slots in let own = ap (λ z. z.slots) c.requires.own in
    let width = p.wide.hand in
    let low : c.args.cell < length k.hand =
    omega (arith, slots, own, width, c.requires.cell) in record {
      alone = alone_of _ _ _ is;
      named = ap (λ k. k.number) (pass_of _ _ _ is) ∙ p.named;
      wide = wide_same _ _ _ _ is table
          (wide-took k c.args.cell p.seat.table_id.slots p.wide (T.history told.1));
      noted = faults_long _ _ _ _ is table
          (length-set p.seat.me.0.faults c.args.cell (T.fault_count told.1) ∙ p.noted);
      carried = ap (λ m. m.1) ex.3 ∙ (ap (λ l. (c.args.cell, None) ∷ rest l) told.3
          ∙ (ap (λ l. (c.args.cell, None) ∷ l) p.carried
          ∙ ap emptied (sym push.items)));
      counted = held_same _ _ _ _ is push.items
          (held-take p.held.items k.hand c.args.cell (T.history told.1) p.counted low told.0);
      roomy = (let r = p.roomy in let e = ap (λ z. z.slots) table in let cap = push.capacity in
          omega (arith, r, e, cap));
    }

pub invariant_of-pass-else-found-eq0 : goal.invariant_of-pass-else-found-eq0
invariant_of-pass-else-found-eq0 g c =
    let p = c.args.pass.now in let k = p.seat.me.0.pass in
    let all = c.compare_exchange-found.ensures.2 c.args.cell p.seat.me.0.faults k refl p.alone in
    let table = c.compare_exchange-found.ensures.0 in
    dite (ℕ_discrete c.compare_exchange-found.result 1)
    (λ one.
    let told = all.1 one in
    let is = ap (λ m. m.0) told.0 in record {
      alone = alone_of _ _ _ is;
      named = ap (λ k. k.number) (pass_of _ _ _ is) ∙ p.named;
      wide = wide_same _ _ _ _ is table
          (wide-missed k c.args.cell p.seat.table_id.slots p.wide);
      noted = faults_long _ _ _ _ is table p.noted;
      carried = ap (λ m. m.1) told.0 ∙ p.carried;
      counted = held_same _ _ _ _ is refl p.counted;
      roomy = (let r = p.roomy in let e = ap (λ z. z.slots) table in omega (arith, r, e));
    })
    (λ other.
    let told = all.2 c.if-found-eq0.false other in
    let is = ap (λ m. m.0) told.0 in record {
      alone = alone_of _ _ _ is;
      named = ap (λ k. k.number) (pass_of _ _ _ is) ∙ p.named;
      wide = wide_same _ _ _ _ is table
          (wide-barred k c.args.cell p.seat.table_id.slots p.wide);
      noted = faults_long _ _ _ _ is table p.noted;
      carried = ap (λ m. m.1) told.0 ∙ p.carried;
      counted = held_same _ _ _ _ is refl p.counted;
      roomy = (let r = p.roomy in let e = ap (λ z. z.slots) table in omega (arith, r, e));
    })

pub invariant_of-result : goal.invariant_of-result
invariant_of-result g c =
    let p = c.args.pass.now in
    let told = (c.compare_exchange-found.ensures.2 c.args.cell p.seat.me.0.faults p.seat.me.0.pass
    refl
    p.alone).0
    c.if-found-eq0.true in
    let value : c.exchange-value.result ≡ Some told.1 =
    ap (slot_or c.exchange-value.result) (sym c.exchange-value.ensures.2 ∙ told.3) in
    record { there = ap is_some value }

pub returns-then-found-eq0-clause-found : goal.returns-then-found-eq0-clause-found
returns-then-found-eq0-clause-found g c =
    let T = g.C.CellState in let p = c.args.pass.now in let k = p.seat.me.0.pass in
    let t = c.args.self.now in let slots = t.slots in
    let wide = subst (λ z. IsWide k z.slots) c.requires.own p.wide in
    let low : c.args.cell < t.board.shared.table_id.slots = omega (arith, slots, c.requires.cell) in
    let told = (c.compare_exchange-found.ensures.2 c.args.cell p.seat.me.0.faults k refl p.alone).0
    c.if-found-eq0.true in
    let ex = c.exchange-value.ensures in
    let is = ap (λ m. m.0) ex.3 ∙ told.4 in
    let value : c.exchange-value.result ≡ Some told.1 =
    ap (slot_or c.exchange-value.result) (sym ex.2 ∙ told.3) in (
      refl,
      ap (option_map T.about) value ∙ sym told.2,
      pass_of _ _ _ is ∙ ap (λ v. took c.args.cell (history_in T.history v) k) (sym value),
      ap (λ x. hand x c.args.cell) (pass_of _ _ _ is)
          ∙ (hand-took k c.args.cell t.board.shared.table_id.slots wide low (T.history told.1)
          ∙ ap (λ v. Some (history_in T.history v)) (sym value)),
    )

pub returns-then-found-eq0-clause-sound : goal.returns-then-found-eq0-clause-sound
returns-then-found-eq0-clause-sound g c =
    let T = g.C.CellState in let p = c.args.pass.now in
    let told = (c.compare_exchange-found.ensures.2 c.args.cell p.seat.me.0.faults p.seat.me.0.pass
    refl
    p.alone).0
    c.if-found-eq0.true in
    let value : c.exchange-value.result ≡ Some told.1 =
    ap (slot_or c.exchange-value.result) (sym c.exchange-value.ensures.2 ∙ told.3) in
    subst (λ v. IfSome v (λ y. T.settled y × (T.is_shut y ≡ false))) (sym value) (told.5, told.6)

pub returns-then-found-eq0-clause-faults : goal.returns-then-found-eq0-clause-faults
returns-then-found-eq0-clause-faults g c =
    let T = g.C.CellState in let p = c.args.pass.now in let f = p.seat.me.0.faults in
    let t = c.args.self.now in let slots = t.slots in let noted = p.noted in
    let own = ap (λ z. z.slots) c.requires.own in
    let low : c.args.cell < length f = omega (arith, slots, own, noted, c.requires.cell) in
    let told = (c.compare_exchange-found.ensures.2 c.args.cell f p.seat.me.0.pass refl p.alone).0
    c.if-found-eq0.true in
    let ex = c.exchange-value.ensures in
    let value : c.exchange-value.result ≡ Some told.1 =
    ap (slot_or c.exchange-value.result) (sym ex.2 ∙ told.3) in
    let words = faults_of _ _ _ (ap (λ m. m.0) ex.3 ∙ told.4) in (
      ap (λ l. get_or l c.args.cell 0) words
          ∙ (get_or-set_same f c.args.cell (T.fault_count told.1) 0 low
          ∙ ap (faults_in T.fault_count) (sym value)),
      words ∙ ap (λ v. set f c.args.cell (faults_in T.fault_count v)) (sym value),
    )

pub returns-then-found-eq1-clause-taken : goal.returns-then-found-eq1-clause-taken
returns-then-found-eq1-clause-taken g c is_taken =
    let p = c.args.pass.now in
    let told = (c.compare_exchange-found.ensures.2 c.args.cell p.seat.me.0.faults p.seat.me.0.pass
    refl
    p.alone).1
    c.if-found-eq1.true in
    (pass_of _ _ _ (ap (λ m. m.0) told.0), told.1)

pub returns-then-found-eq1-clause-same : goal.returns-then-found-eq1-clause-same
returns-then-found-eq1-clause-same g c =
    let p = c.args.pass.now in
    let told = (c.compare_exchange-found.ensures.2 c.args.cell p.seat.me.0.faults p.seat.me.0.pass
    refl
    p.alone).1
    c.if-found-eq1.true in
    faults_of _ _ _ (ap (λ m. m.0) told.0)

pub returns-else-found-eq1-clause-shut : goal.returns-else-found-eq1-clause-shut
returns-else-found-eq1-clause-shut g c is_shut =
    let p = c.args.pass.now in
    let told = (c.compare_exchange-found.ensures.2 c.args.cell p.seat.me.0.faults p.seat.me.0.pass
    refl
    p.alone).2
    c.if-found-eq0.false c.if-found-eq1.false in
    (pass_of _ _ _ (ap (λ m. m.0) told.0), told.1)

pub returns-else-found-eq1-clause-same : goal.returns-else-found-eq1-clause-same
returns-else-found-eq1-clause-same g c =
    let p = c.args.pass.now in
    let told = (c.compare_exchange-found.ensures.2 c.args.cell p.seat.me.0.faults p.seat.me.0.pass
    refl
    p.alone).2
    c.if-found-eq0.false c.if-found-eq1.false in
    faults_of _ _ _ (ap (λ m. m.0) told.0)
