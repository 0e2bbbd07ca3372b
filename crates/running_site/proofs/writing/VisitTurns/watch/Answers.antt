use Rattle.std.proofs.Common.{◌+◌, slice_index, sym, ap, ◌∙◌, subst}
use Rattle.exchange_rules.specs.declared.log_entry.LogEntry.{LogEntry}
use Rattle.site_laws.specs.declared.cell_about.CellAbout.{CellAbout}
use Rattle.topic_book.specs.Cells.{cells_in}
use Rattle.turn_table.specs.Calls.{known}
use Rattle.turn_table.specs.declared.knowledge.Known.{Known}
use Rattle.running_site.specs.Passes.{numbers_to, writer_in}
use Rattle.running_site.specs.Visits.{IsVisit}
use Rattle.running_site.proofs.KnownLemmas.{wide-at}
use Rattle.running_site.proofs.LoneLemmas.{lone-all}
use Rattle.running_site.proofs.writing.VisitTurns.watch.Goals as goal

pub invariant_of-self : goal.invariant_of-self
invariant_of-self g c =
    let v = c.args.self.now in record {
      seated = c.watch.ensures.own ∙ v.seated;
      numbered = ap (λ (x : Known CellAbout LogEntry). x.numbers) c.watch.ensures.known
          ∙ v.numbered;
      opened = v.opened;
      visit = subst (λ k. IsVisit v.site.now.names v.site.now.limit k v.turn)
          (sym c.watch.ensures.known) v.visit;
      noted = λ t e. ap (λ words. slice_index words t.cell) c.watch.ensures.faults ∙ v.noted t e;
      sound = v.sound;
    }

pub returns-clause-alone : goal.returns-clause-alone
returns-clause-alone g c = λ one.
    let v = c.args.self.now in
    let k = known v.pass in
    lone-all g.D.Disk.seen g.D.Disk.may_leave g.D.Disk.faults v.site.now.names v.site.now.limit k v.visit.knowing
    (v.numbered ∙ (v.site.now.numbered ∙ ap numbers_to one))
    (wide-at k v.pass.seat.table_id v.site.now.table.board.shared.table_id
    v.site.now.table.cells (cells_in v.site.now.names + 1) v.pass.wide v.seated
    v.site.now.table.slots v.site.now.sized)
    c.watch.ensures.watched v.marks.items v.own.items

pub returns-clause-writer : goal.returns-clause-writer
returns-clause-writer g c =
    let v = c.args.self.now in
    ap (λ k. writer_in k v.marks.items v.own.items) c.watch.ensures.known
