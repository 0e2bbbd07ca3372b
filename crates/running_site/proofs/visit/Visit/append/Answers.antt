use Rattle.std.proofs.Common.{◌≡◌, ◌+◌, ◌∙◌, refl, sym, subst, arith}
use Rattle.std.specs.Prelude.{IfErr, None, OnOk}
use Rattle.topic_book.specs.Cells.{cells_in}
use Rattle.turn_table.specs.Calls.{known}
use Rattle.running_site.specs.Passes.{writer_in}
use Rattle.running_site.specs.Seals.{made_by, writes_of, StaysIn}
use Rattle.running_site.specs.Visits.{HasTurn, IsVisit}
use Rattle.running_site.proofs.AppendLemmas.{append-cause, append-fits, left-as}
use Rattle.running_site.proofs.LookLemmas.{sound-here}
use Rattle.running_site.proofs.KnownLemmas.{wide-at}
use Rattle.running_site.proofs.SealLemmas.{sealed-as, unsealed-writers}
use Rattle.running_site.proofs.visit.Visit.append.Goals as goal

pub seal_in-result-requires-clause-visit : goal.seal_in-result-requires-clause-visit
seal_in-result-requires-clause-visit g c =
    let v = c.args.self.now in
    subst (IsVisit v.site.now.names v.site.now.limit (known v.pass))
    (sym c.take.ensures.value ∙ c.in-Some.is) v.visit

pub seal_in-result-requires-clause-cell : goal.seal_in-result-requires-clause-cell
seal_in-result-requires-clause-cell g c =
    subst (λ o. HasTurn o c.args.cell) (sym c.take.ensures.value ∙ c.in-Some.is) c.requires.holds

pub seal_in-result-requires-clause-noted : goal.seal_in-result-requires-clause-noted
seal_in-result-requires-clause-noted g c =
    let v = c.args.self.now in v.noted c.in-Some.turn (sym c.take.ensures.value ∙ c.in-Some.is)

pub seal_in-result-requires-clause-sound : goal.seal_in-result-requires-clause-sound
seal_in-result-requires-clause-sound g c =
    let v = c.args.self.now in
    sound-here g.D.Disk.seen g.D.Disk.may_leave v.turn c.in-Some.turn
    (sym c.take.ensures.value ∙ c.in-Some.is) v.sound

pub invariant_of-self : goal.invariant_of-self
invariant_of-self g c =
    let v = c.args.self.now in
    record {
      seated = c.hold_or_give.ensures.seated ∙ (c.seal_in-result.ensures.seated ∙ v.seated);
      numbered = c.hold_or_give.ensures.numbers ∙ (c.seal_in-result.ensures.numbers ∙ v.numbered);
      opened = v.opened;
      visit = c.hold_or_give.ensures.visit;
      noted = c.hold_or_give.ensures.noted;
      sound = c.hold_or_give.ensures.sound;
    }

pub returns-clause-holds : goal.returns-clause-holds
returns-clause-holds g c =
    subst (λ cell. OnOk c.seal_in-result.result (HasTurn c.hold_or_give.new.slot cell))
    c.seal_in-result.ensures.cell c.hold_or_give.ensures.holds

pub returns-clause-turn : goal.returns-clause-turn
returns-clause-turn g c =
    subst (λ cell. IfErr c.seal_in-result.result
    (StaysIn (HasTurn c.hold_or_give.new.slot cell) (c.hold_or_give.new.slot ≡ None)))
    c.seal_in-result.ensures.cell c.hold_or_give.ensures.turn

pub returns-clause-ok : goal.returns-clause-ok
returns-clause-ok g c =
    let v = c.args.self.now in
    sealed-as c.seal_in-result.result (known v.pass) (known c.seal_in-result.new.pass)
    (known c.hold_or_give.new.pass) v.own.items c.seal_in-result.new.own.items c.args.cell
    c.args.sealing c.hold_or_give.ensures.known c.seal_in-result.ensures.ok

pub returns-clause-err : goal.returns-clause-err
returns-clause-err g c =
    let v = c.args.self.now in
    let k = known v.pass in
    let wide = wide-at k v.pass.seat.table_id v.site.now.table.board.shared.table_id
    v.site.now.table.cells (cells_in v.site.now.names + 1) v.pass.wide v.seated
    v.site.now.table.slots v.site.now.sized in
    let seen = wide.seen in
    let broke = wide.broke in
    let is = sym c.take.ensures.value ∙ c.in-Some.is in
    let visit = subst (IsVisit v.site.now.names v.site.now.limit k) is v.visit in
    let within = (visit.holding c.in-Some.turn refl).within in
    let here = subst (λ o. HasTurn o c.args.cell) is c.requires.holds in
    left-as c.seal_in-result.result (writer_in k v.marks.items v.own.items)
    (made_by k v.marks.items v.own.items c.args.cell c.args.sealing) c.args.cell
    (writes_of c.args.sealing)
    (writer_in (known c.seal_in-result.new.pass) v.marks.items c.seal_in-result.new.own.items)
    (writer_in (known c.hold_or_give.new.pass) v.marks.items c.seal_in-result.new.own.items)
    (c.hold_or_give.ensures.writer v.marks.items c.seal_in-result.new.own.items)
    (unsealed-writers c.in-Some.turn c.seal_in-result.new.turn k (known c.seal_in-result.new.pass)
    v.marks.items v.marks.items v.own.items c.seal_in-result.new.own.items c.args.cell
    c.args.sealing c.seal_in-result.result refl (omega (arith, seen, broke, within, here))
    c.seal_in-result.ensures.err)

pub returns-clause-fits : goal.returns-clause-fits
returns-clause-fits g c =
    let v = c.args.self.now in
    let is = sym c.take.ensures.value ∙ c.in-Some.is in
    append-fits v.site.now.names v.site.now.limit (known v.pass) c.in-Some.turn
    (subst (IsVisit v.site.now.names v.site.now.limit (known v.pass)) is v.visit) c.args.cell
    (subst (λ o. HasTurn o c.args.cell) is c.requires.holds) c.args.sealing c.requires.allowed
    c.seal_in-result.result c.seal_in-result.ensures.taken

pub returns-clause-cause : goal.returns-clause-cause
returns-clause-cause g c =
    let v = c.args.self.now in
    let is = sym c.take.ensures.value ∙ c.in-Some.is in
    append-cause v.site.now.names v.site.now.limit (known v.pass) c.in-Some.turn
    (subst (IsVisit v.site.now.names v.site.now.limit (known v.pass)) is v.visit) c.args.cell
    (subst (λ o. HasTurn o c.args.cell) is c.requires.holds) c.args.sealing c.requires.allowed
    c.seal_in-result.result c.seal_in-result.ensures.cause
