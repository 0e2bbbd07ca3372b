use Rattle.std.proofs.Common.{◌-◌, length, slice_index, refl, sym, ap, ◌∙◌, subst, arith, length-append}
use Rattle.site_laws.specs.Sealings.{entries_of, names_told, MayAppend}
use Rattle.turn_table.specs.Calls.{fault_word, known, turn_history}
use Rattle.logged_cells.specs.Cells.{log_of_cell}
use Rattle.running_site.proofs.KnownLemmas.{names_of}
use Rattle.running_site.proofs.SealLemmas.{is-sealed, log-there, sealed-visit}
use Rattle.running_site.proofs.sealing.seal_ready.Goals as goal

pub seal-requires-clause-turn : goal.seal-requires-clause-turn
seal-requires-clause-turn g c = (c.requires.visit.holding c.args.turn.now refl).in_hand

pub seal-requires-clause-looked : goal.seal-requires-clause-looked
seal-requires-clause-looked g c = (c.requires.visit.holding c.args.turn.now refl).whole

pub seal-requires-clause-allowed : goal.seal-requires-clause-allowed
seal-requires-clause-allowed g c =
    let site = c.args.site.now in
    let k = known c.args.pass.now in
    subst (λ ns. MayAppend ns k.number k.seen c.args.turn.now.cell c.args.sealing)
    (sym (ap names_told c.requires.visit.knowing.about ∙ names_of site.names site.limit))
    (subst (λ n. MayAppend site.names k.number k.seen n c.args.sealing) (sym c.requires.cell)
    c.requires.allowed)

pub overflow_sub-count : goal.overflow_sub-count
overflow_sub-count g c =
    let t = c.args.turn.now in
    let u = c.seal.new.turn in
    let from = c.len-from.ensures ∙ ap length (log-there t c.state.result.now c.state.ensures) in
    let upto = c.len.ensures ∙ ap length (log-there u c.state-2.result.now c.state-2.ensures) in
    let long = ap length c.seal.ensures.appended in
    let both = length-append (turn_history log_of_cell t) (entries_of c.args.sealing) in
    omega (arith, from, upto, long, both)

pub returns-clause-visit : goal.returns-clause-visit
returns-clause-visit g c =
    let site = c.args.site.now in
    sealed-visit site.names site.limit (known c.args.pass.now) (known c.seal.new.pass)
    c.args.turn.now c.seal.new.turn c.args.sealing c.requires.visit c.args.cell c.requires.cell
    c.seal.ensures.cell c.seal.ensures.appended c.seal.ensures.sealed c.requires.allowed
    c.seal.ensures.holds c.seal.ensures.seen c.seal.ensures.about

pub returns-clause-sealed : goal.returns-clause-sealed
returns-clause-sealed g c =
    let site = c.args.site.now in
    let t = c.args.turn.now in
    let u = c.seal.new.turn in
    let from = c.len-from.ensures ∙ ap length (log-there t c.state.result.now c.state.ensures) in
    let upto = c.len.ensures ∙ ap length (log-there u c.state-2.result.now c.state-2.ensures) in
    let long = ap length c.seal.ensures.appended in
    let both = length-append (turn_history log_of_cell t) (entries_of c.args.sealing) in
    is-sealed site.names site.limit (known c.args.pass.now) (known c.seal.new.pass)
    t u c.args.sealing c.requires.visit c.args.cell c.requires.cell
    c.seal.ensures.cell c.seal.ensures.appended c.seal.ensures.sealed c.len-from.result
    (c.len.result - c.len-from.result) c.args.own.now.items c.push_reserved.new.self.items from
    (omega (arith, from, upto, long, both)) c.push_reserved.ensures.items

pub returns-clause-noted : goal.returns-clause-noted
returns-clause-noted g c =
    ap (λ words. slice_index words c.seal.new.turn.cell) c.seal.ensures.faults.1
    ∙ (ap (fault_word c.args.pass.now) c.seal.ensures.cell ∙ c.requires.noted)
    ∙ sym c.seal.ensures.faults.0
