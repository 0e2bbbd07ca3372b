use Rattle.std.proofs.Common.{◌≡◌, ◌∷◌, ◌++◌, false, length, sym, refl, ap, ◌∙◌, subst, arith, Some, None, length-append}
use Rattle.std.specs.Prelude.{IfSome, is_some, option_map}
use Rattle.atomic_table.specs.Table.{rest}
use Rattle.turn_table.specs.Calls.{faults_in, history_in}
use Rattle.turn_table.specs.Carried.{emptied}
use Rattle.turn_table.specs.Histories.{at}
use Rattle.turn_table.specs.Knowledge.{hand, lone, sealed}
use Rattle.turn_table.proofs.CarriedLemmas.{held-seal, in_range, is_held}
use Rattle.turn_table.proofs.KnowledgeLemmas.{alone_of, faults_long, faults_of, hand-took, held_same, pass_of, seen-looked, wide-sealed, wide_same}
use Rattle.turn_table.proofs.ListLemmas.{slot_or}
use Rattle.turn_table.proofs.SealLemmas.{seals}
use Rattle.turn_table.proofs.table.TurnTable.seal.Goals as goal

pub bring-requires : goal.bring-requires
bring-requires g c =
    let p = c.args.pass.now in
    is_held p.held.items p.seat.me.0.pass.hand c.args.turn.now.cell _ p.counted c.requires.turn

pub append-requires : goal.append-requires
append-requires g c =
    let T = g.C.CellState in let p = c.args.pass.now in let b = c.bring.new.self in
    let value : c.args.turn.now.value ≡ Some c.unwrap-value.result =
    sym c.take.ensures.value ∙ c.unwrap-value.ensures in
    let number = ap (λ x. x.number) (sym c.bring.ensures.known) ∙ b.named in
    subst (λ n. T.room c.unwrap-value.result n c.args.sealing) number
    (subst (λ v. IfSome v (λ y. T.room y p.seat.me.0.pass.number c.args.sealing)) value
    c.requires.room)

pub exchange-requires : goal.exchange-requires
exchange-requires g c =
    let b = c.bring.new.self in let front = c.bring.ensures.front in
    let carried = b.carried ∙ ap emptied front.1 in (
      c.bring.ensures.table ∙ c.requires.own,
      (None, carried ∙ ap (λ l. (c.args.turn.now.cell, None) ∷ rest l) (sym carried)),
    )

pub fetch_add-requires : goal.fetch_add-requires
fetch_add-requires g c =
    let T = g.C.CellState in let L = g.met.C.CellState in
    let t = c.args.self.now in let p = c.args.pass.now in let b = c.bring.new.self in
    let k = p.seat.me.0.pass in let cell = c.args.turn.now.cell in
    let v = c.args.turn.now.value in
    let words = t.words in let slots = t.slots in let own = ap (λ z. z.slots) c.requires.own in
    let width = p.wide.hand in
    let low = in_range k.hand cell (history_in T.history v) c.requires.turn in
    let is = b.alone ∙ (λ i. lone (c.bring.ensures.faults i) (c.bring.ensures.known i)) in
    let ex = c.exchange.ensures in let now = ap (λ m. m.1) ex.3 in
    let xs = T.entries k.number c.args.sealing in
    let number = ap (λ x. x.number) (sym c.bring.ensures.known) ∙ b.named in
    let value : v ≡ Some c.unwrap-value.result =
    sym c.take.ensures.value ∙ c.unwrap-value.ensures in
    let had = c.append.ensures.history
    ∙ ap (λ n. T.history c.unwrap-value.result ++ T.entries n c.args.sealing) (sym number) in
    let before = c.len-before.ensures in let after = c.len.ensures in
    let sum = ap length had ∙ length-append (T.history c.unwrap-value.result) xs in
    let same = ap (λ x. length (history_in T.history x)) value in (
      ex.0 ∙ (c.bring.ensures.table ∙ c.requires.own),
      omega (arith, words, slots, own, width, low),
      seals T.about T.history T.writer T.law T.tells T.settled T.is_shut T.fault_count _ _ _ _ _
          c.exchange.new.seat.me
          p.seat.me.0.faults k
          (ap (λ m. m.0) ex.3 ∙ is) cell (omega (arith, own, width, low))
          (history_in T.history v) c.requires.turn c.append.new.self xs _
          (omega (arith, sum, before, after)) (omega (arith, sum, before, after, same))
          (now ∙ ap (λ l. (cell, Some c.append.new.self) ∷ l) (sym (ap rest now)))
          (had ∙ ap (λ x. history_in T.history x ++ xs) (sym value))
          (L.signed k.about k.number k.seen cell c.args.sealing c.requires.allowed)
          c.requires.looked
          (λ histories l u n m. L.keeps k.about k.number histories k.seen cell c.args.sealing l u n
          m
          c.requires.allowed)
          L.lasts,
    )

pub exchange-requires-2 : goal.exchange-requires-2
exchange-requires-2 g c =
    let b = c.bring.new.self in let cell = c.args.turn.now.cell in
    let is = b.alone ∙ (λ i. lone (c.bring.ensures.faults i) (c.bring.ensures.known i)) in
    let ex = c.exchange.ensures in let now = ap (λ m. m.1) ex.3 in
    let told = c.fetch_add.ensures.2 cell c.args.pass.now.seat.me.0.faults
    c.args.pass.now.seat.me.0.pass c.append.new.self refl (ap (λ m. m.0) ex.3 ∙ is)
    (now ∙ ap (λ l. (cell, Some c.append.new.self) ∷ l) (sym (ap rest now))) in
    let there = ap (λ m. m.1) told ∙ now in (
      c.fetch_add.ensures.0 ∙ (ex.0 ∙ (c.bring.ensures.table ∙ c.requires.own)),
      (
        Some c.append.new.self,
        there ∙ ap (λ l. (cell, Some c.append.new.self) ∷ l) (sym (ap rest there)),
      ),
    )

pub invariant_of-pass : goal.invariant_of-pass
invariant_of-pass g c =
    let T = g.C.CellState in let p = c.args.pass.now in let b = c.bring.new.self in
    let k = p.seat.me.0.pass in let cell = c.args.turn.now.cell in
    let front = c.bring.ensures.front in let y = c.append.new.self in
    let is = b.alone ∙ (λ i. lone (c.bring.ensures.faults i) (c.bring.ensures.known i)) in
    let ex = c.exchange.ensures in let now = ap (λ m. m.1) ex.3 in
    let told = c.fetch_add.ensures.2 cell p.seat.me.0.faults k y refl (ap (λ m. m.0) ex.3 ∙ is)
    (now ∙ ap (λ l. (cell, Some y) ∷ l) (sym (ap rest now))) in
    let ex2 = c.exchange-2.ensures in
    let view = ap (λ m. m.0) ex2.3 ∙ ap (λ m. m.0) told in
    let table = ex2.0 ∙ (c.fetch_add.ensures.0 ∙ (ex.0 ∙ c.bring.ensures.table)) in
    let mine = b.carried ∙ ap emptied front.1 in record {
      alone = alone_of _ _ _ view;
      named = ap (λ x. x.number) (pass_of _ _ _ view)
          ∙ (ap (λ x. x.number) (sym c.bring.ensures.known) ∙ b.named);
      wide = wide_same _ _ _ _ view table
          (wide-sealed k cell p.seat.table_id.slots p.wide (T.history y));
      noted = faults_long _ _ _ _ view table p.noted;
      carried = ap (λ m. m.1) ex2.3 ∙ (ap (λ l. (cell, None) ∷ rest l)
          (ap (λ m. m.1) told ∙ now) ∙ (ap (λ l. (cell, None) ∷ rest l) mine
          ∙ ap emptied (sym front.1)));
      counted = held_same _ _ _ _ view refl
          (held-seal b.held.items k.hand cell _ (T.history y)
          (held_same _ _ _ _ (sym is) refl b.counted) c.requires.turn);
      roomy = (let r = b.roomy in let one = ap (λ z. z.slots) ex2.0 in
          let two = ap (λ z. z.slots) c.fetch_add.ensures.0 in
          let three = ap (λ z. z.slots) ex.0 in omega (arith, r, one, two, three));
    }

pub invariant_of-turn : goal.invariant_of-turn
invariant_of-turn g c =
    let b = c.bring.new.self in let cell = c.args.turn.now.cell in
    let is = b.alone ∙ (λ i. lone (c.bring.ensures.faults i) (c.bring.ensures.known i)) in
    let ex = c.exchange.ensures in let now = ap (λ m. m.1) ex.3 in
    let told = c.fetch_add.ensures.2 cell c.args.pass.now.seat.me.0.faults
    c.args.pass.now.seat.me.0.pass c.append.new.self refl (ap (λ m. m.0) ex.3 ∙ is)
    (now ∙ ap (λ l. (cell, Some c.append.new.self) ∷ l) (sym (ap rest now))) in
    let after : c.exchange-2.result ≡ Some c.append.new.self =
    ap (slot_or c.exchange-2.result)
    (sym c.exchange-2.ensures.2 ∙ (ap (λ m. m.1) told ∙ now)) in
    record { there = ap is_some after }

pub returns : goal.returns
returns g c =
    let T = g.C.CellState in let p = c.args.pass.now in let k = p.seat.me.0.pass in
    let b = c.bring.new.self in let cell = c.args.turn.now.cell in let y = c.append.new.self in
    let is = b.alone ∙ (λ i. lone (c.bring.ensures.faults i) (c.bring.ensures.known i)) in
    let ex = c.exchange.ensures in let now = ap (λ m. m.1) ex.3 in
    let told = c.fetch_add.ensures.2 cell p.seat.me.0.faults k y refl (ap (λ m. m.0) ex.3 ∙ is)
    (now ∙ ap (λ l. (cell, Some y) ∷ l) (sym (ap rest now))) in
    let ex2 = c.exchange-2.ensures in
    let after : c.exchange-2.result ≡ Some y =
    ap (slot_or c.exchange-2.result) (sym ex2.2 ∙ (ap (λ m. m.1) told ∙ now)) in
    let value : c.args.turn.now.value ≡ Some c.unwrap-value.result =
    sym c.take.ensures.value ∙ c.unwrap-value.ensures in
    let number = ap (λ x. x.number) (sym c.bring.ensures.known) ∙ b.named in
    let sealed_is = pass_of _ _ _ (ap (λ m. m.0) ex2.3 ∙ ap (λ m. m.0) told)
    ∙ ap (λ v. sealed cell (history_in T.history v) k) (sym after) in
    let entries = history_in T.history c.exchange-2.result in
    let width = p.wide.hand in let low = in_range k.hand cell _ c.requires.turn in record {
      own = ex2.0 ∙ (c.fetch_add.ensures.0 ∙ (ex.0 ∙ c.bring.ensures.table));
      cell = refl;
      about = ap (option_map T.about) after ∙ (ap Some c.append.ensures.about
          ∙ ap (option_map T.about) (sym value));
      appended = ap (history_in T.history) after ∙ (c.append.ensures.history
          ∙ (λ i. history_in T.history (sym value i) ++ T.entries (sym number i) c.args.sealing));
      signed = g.met.C.CellState.signed k.about k.number k.seen cell c.args.sealing
          c.requires.allowed;
      sealed = sealed_is;
      holds = ap (λ x. hand x cell) sealed_is
          ∙ hand-took k cell p.seat.table_id.slots p.wide (omega (arith, width, low)) entries;
      seen = ap (λ x. at x.seen cell) sealed_is
          ∙ seen-looked k cell p.seat.table_id.slots p.wide (omega (arith, width, low)) entries;
      sound = subst (λ v. IfSome v (λ x. T.settled x × (T.is_shut x ≡ false))) (sym after)
          (c.append.ensures.settled, c.append.ensures.sound);
      faults = (
        ap (faults_in T.fault_count) after ∙ (c.append.ensures.faults
            ∙ ap (faults_in T.fault_count) (sym value)),
        faults_of _ _ _ (ap (λ m. m.0) ex2.3 ∙ ap (λ m. m.0) told),
      );
    }
