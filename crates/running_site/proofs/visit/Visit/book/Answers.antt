use Rattle.std.proofs.Common.{sym, refl, ap, ◌∙◌, subst}
use Rattle.topic_book.specs.Cells.{cells_in}
use Rattle.turn_table.specs.Calls.{known}
use Rattle.site_cells.specs.Values.{about_of}
use Rattle.site_cells.specs.declared.cell_value.CellValue.{CellValue}
use Rattle.running_site.specs.Visits.{AreCounted, HasTurn, IsVisit}
use Rattle.running_site.proofs.ValueLemmas.{book-there, same-book}
use Rattle.running_site.proofs.visit.Visit.book.Goals as goal

pub book-requires : goal.book-requires
book-requires g c =
    let v = c.args.self.now in
    let cell = cells_in v.site.now.names in
    let visit = subst (IsVisit v.site.now.names v.site.now.limit (known v.pass)) c.in-Some.is
    v.visit in
    let here = subst (λ o. HasTurn o cell) c.in-Some.is c.requires in
    let b = book-there v.site.now.names v.site.now.limit (known v.pass) c.in-Some.turn visit
    cell here c.state.result.now c.state.ensures refl in
    ap (λ (x : CellValue). (about_of c.state.result.now.names.value x).is_book) b.is

pub returns-clause-seen : goal.returns-clause-seen
returns-clause-seen g c =
    let v = c.args.self.now in
    let cell = cells_in v.site.now.names in
    let visit = subst (IsVisit v.site.now.names v.site.now.limit (known v.pass)) c.in-Some.is
    v.visit in
    let here = subst (λ o. HasTurn o cell) c.in-Some.is c.requires in
    let b = book-there v.site.now.names v.site.now.limit (known v.pass) c.in-Some.turn visit
    cell here c.state.result.now c.state.ensures refl in
    same-book c.book.result.now b.book (sym c.book.ensures ∙ b.is) ∙ sym b.seen

pub returns-clause-counted : goal.returns-clause-counted
returns-clause-counted g c =
    let v = c.args.self.now in
    let cell = cells_in v.site.now.names in
    let visit = subst (IsVisit v.site.now.names v.site.now.limit (known v.pass)) c.in-Some.is
    v.visit in
    let here = subst (λ o. HasTurn o cell) c.in-Some.is c.requires in
    let b = book-there v.site.now.names v.site.now.limit (known v.pass) c.in-Some.turn visit
    cell here c.state.result.now c.state.ensures refl in
    subst (AreCounted v.site.now.names)
    (sym (same-book c.book.result.now b.book (sym c.book.ensures ∙ b.is))) b.counted
