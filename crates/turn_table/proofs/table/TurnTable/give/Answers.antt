use Rattle.std.proofs.Common.{◌≡◌, ◌⊎◌, ◌∷◌, Bool, true, false, drop, sym, refl, ap, ◌∙◌, subst, arith, None, Some}
use Rattle.std.specs.Prelude.{IfSome, option_map}
use Rattle.atomic_table.specs.Table.{rest}
use Rattle.turn_table.specs.Calls.{faults_in, history_in}
use Rattle.turn_table.specs.Carried.{emptied}
use Rattle.turn_table.specs.Knowledge.{hand, lone}
use Rattle.turn_table.proofs.CarriedLemmas.{held-give, in_range, is_held}
use Rattle.turn_table.proofs.GiveLemmas.{ending_of, gives_back, word_for}
use Rattle.turn_table.proofs.KnowledgeLemmas.{alone_of, faults_long, faults_of, hand-gave, held_same, pass_of, wide-gave, wide_same}
use Rattle.turn_table.proofs.ListLemmas.{some_is, value_of}
use Rattle.turn_table.proofs.table.TurnTable.give.Goals as goal

pub bring-requires : goal.bring-requires
bring-requires g c =
    let p = c.args.pass.now in
    is_held p.held.items p.seat.me.0.pass.hand c.args.turn.cell _ p.counted c.requires.turn

pub exchange-requires : goal.exchange-requires
exchange-requires g c =
    let b = c.bring.new.self in let front = c.bring.ensures.front in
    let carried = b.carried ∙ ap emptied front.1 in (
      c.bring.ensures.table ∙ c.requires.own,
      (None, carried ∙ ap (λ l. (c.args.turn.cell, None) ∷ rest l) (sym carried)),
    )

pub swap-requires : goal.swap-requires
swap-requires g c =
    let T = g.C.CellState in let t = c.args.self.now in let p = c.args.pass.now in
    let b = c.bring.new.self in let k = p.seat.me.0.pass in let cell = c.args.turn.cell in
    let words = t.words in let slots = t.slots in let own = ap (λ z. z.slots) c.requires.own in
    let width = p.wide.hand in let low = in_range k.hand cell _ c.requires.turn in
    let is = b.alone ∙ (λ i. lone (c.bring.ensures.faults i) (c.bring.ensures.known i)) in
    let ex = c.exchange.ensures in let now = ap (λ m. m.1) ex.3 in
    let y = value_of c.args.turn.value c.args.turn.there in
    let end = subst (λ v. IfSome v (λ x. T.settled x ⊎ (T.is_shut x ≡ true))) y.1
    c.requires.settled in
    let state : y.0 ≡ c.state.result.now = some_is y.0 c.state.result.now
    (sym y.1 ∙ c.state.ensures) in
    let word = c.word_of-word.ensures ∙ ap word_for (c.shut.ensures ∙ ap T.is_shut (sym state)) in (
      ex.0 ∙ (c.bring.ensures.table ∙ c.requires.own),
      omega (arith, words, slots, own, width, low),
      gives_back T.about T.history T.writer T.law T.tells T.settled T.is_shut T.fault_count _ _ _ _
          _ c.exchange.new.seat.me
          p.seat.me.0.faults k
          (ap (λ m. m.0) ex.3 ∙ is) cell (omega (arith, own, width, low))
          (history_in T.history c.args.turn.value) c.requires.turn y.0
          (now ∙ (λ i. (cell, y.1 i) ∷ sym (ap rest now) i)) (ap (history_in T.history) y.1)
          (sym c.requires.about ∙ ap (option_map T.about) y.1)
          (c.requires.noted ∙ ap (faults_in T.fault_count) y.1) _
          (subst (λ n. ((n ≡ 0) × T.settled y.0 × (T.is_shut y.0 ≡ false))
          ⊎ ((n ≡ 2) × (T.is_shut y.0 ≡ true))) (sym word)
          (ending_of (T.is_shut y.0) (T.settled y.0) end)),
    )

pub invariant_of-pass : goal.invariant_of-pass
invariant_of-pass g c =
    let T = g.C.CellState in let p = c.args.pass.now in let b = c.bring.new.self in
    let k = p.seat.me.0.pass in let cell = c.args.turn.cell in
    let front = c.bring.ensures.front in
    let is = b.alone ∙ (λ i. lone (c.bring.ensures.faults i) (c.bring.ensures.known i)) in
    let ex = c.exchange.ensures in
    let told = c.swap.ensures.2 cell p.seat.me.0.faults k refl (ap (λ m. m.0) ex.3 ∙ is) in
    let view = ap (λ m. m.0) told in
    let table = c.swap.ensures.0 ∙ (ex.0 ∙ c.bring.ensures.table) in
    let popped = c.pop_front.ensures in
    let left : c.pop_front.new.self.items ≡ front.0 =
    popped.rest ∙ ap (drop 1) front.1 in
    let held = held_same _ _ _ _ (sym is) (sym front.1) b.counted in record {
      alone = alone_of _ _ _ view;
      named = ap (λ x. x.number) (pass_of _ _ _ view)
          ∙ (ap (λ x. x.number) (sym c.bring.ensures.known) ∙ b.named);
      wide = wide_same _ _ _ _ view table (wide-gave k cell p.seat.table_id.slots p.wide);
      noted = faults_long _ _ _ _ view table p.noted;
      carried = ap (λ m. m.1) told ∙ (ap (λ m. rest m.1) ex.3
          ∙ (ap rest (b.carried ∙ ap emptied front.1) ∙ ap emptied (sym left)));
      counted = held_same _ _ _ _ view left
          (held-give front.0 k.hand cell _ held c.requires.turn);
      roomy = (let r = b.roomy in let one = ap (λ z. z.slots) c.swap.ensures.0 in
          let two = ap (λ z. z.slots) ex.0 in let cap = popped.capacity in
          omega (arith, r, one, two, cap));
    }

pub returns : goal.returns
returns g c =
    let b = c.bring.new.self in let p = c.args.pass.now in let k = p.seat.me.0.pass in
    let cell = c.args.turn.cell in
    let is = b.alone ∙ (λ i. lone (c.bring.ensures.faults i) (c.bring.ensures.known i)) in
    let told = c.swap.ensures.2 cell p.seat.me.0.faults k refl (ap (λ m. m.0) c.exchange.ensures.3
    ∙ is) in
    let now = pass_of _ _ _ (ap (λ m. m.0) told) in
    let width = p.wide.hand in let low = in_range k.hand cell _ c.requires.turn in record {
      own = c.swap.ensures.0 ∙ (c.exchange.ensures.0 ∙ c.bring.ensures.table);
      gave = now;
      free = ap (λ x. hand x cell) now
          ∙ hand-gave k cell p.seat.table_id.slots p.wide (omega (arith, width, low));
      faults = faults_of _ _ _ (ap (λ m. m.0) told);
    }
