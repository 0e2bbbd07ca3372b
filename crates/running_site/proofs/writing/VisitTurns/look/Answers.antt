use Rattle.std.proofs.Common.{refl, ◌≡◌, ◌+◌, ◌<◌, slice_index, [], ◌∷◌, ◌++◌, length, sym, ap, ◌∙◌, subst, arith}
use Rattle.std.proofs.lemmas.Option.{none-some}
use Rattle.topic_book.specs.Cells.{cells_in}
use Rattle.exchange_rules.specs.Following.{Writer}
use Rattle.exchange_rules.specs.Primitives.{barred_at, LooksAt}
use Rattle.exchange_rules.specs.declared.log_entry.LogEntry.{LogEntry}
use Rattle.site_laws.specs.Looks.{IsLater}
use Rattle.site_laws.specs.declared.cell_about.CellAbout.{CellAbout}
use Rattle.site_laws.proofs.LaterLemmas.{later-on}
use Rattle.turn_table.specs.Calls.{fault_word, known, turn_faults}
use Rattle.turn_table.specs.declared.knowledge.Known.{Known}
use Rattle.logged_cells.specs.Cells.{faults_of}
use Rattle.running_site.specs.Passes.{sight_in, writer_in}
use Rattle.running_site.specs.Visits.{IsVisit}
use Rattle.running_site.proofs.KnownLemmas.{wide-at}
use Rattle.running_site.proofs.LookLemmas.{barred-later, barred-visit, barred-writer, looked-later, looked-visit, looked-writer, noted-as, sound-as}
use Rattle.running_site.proofs.SealLemmas.{log-there}
use Rattle.running_site.proofs.writing.VisitTurns.look.Goals as goal

pub invariant_of-self-2 : goal.invariant_of-self-2
invariant_of-self-2 g c =
    let v = c.leave.new.self in
    let k = known v.pass in
    let t = c.in-Some.turn in
    let took = c.in-Some.ensures.took in
    let idle = subst (IsVisit v.site.now.names v.site.now.limit k) c.leave.ensures.free v.visit in
    let within = subst (λ (w : Writer). c.args.cell < length w.seen) (sym c.leave.ensures.writer)
    c.requires in
    record {
      seated = c.look.ensures.own ∙ (c.turn.ensures.own ∙ v.seated);
      numbered = ap (λ (x : Known CellAbout LogEntry). x.numbers) c.look.ensures.looked
          ∙ (ap (λ (x : Known CellAbout LogEntry). x.numbers) took.2 ∙ v.numbered);
      opened = v.opened;
      visit = subst (IsVisit v.site.now.names v.site.now.limit (known c.look.new.pass))
          (sym c.hold.ensures)
          (looked-visit k (known c.turn.new.pass) (known c.look.new.pass) c.args.cell took.0 t
          c.in-Some.ensures.cell took.2 c.look.ensures.looked g.D.Disk.seen g.D.Disk.may_leave g.D.Disk.faults
          v.site.now.names v.site.now.limit idle c.look.ensures.glimpse within c.look.ensures.others c.look.ensures.holds
          c.look.ensures.seen
          c.in-Some.ensures.about);
      noted = noted-as g.D.Disk.faults c.look.new.pass c.hold.new.slot t c.hold.ensures
          (ap (λ words. slice_index words t.cell) c.look.ensures.faults
          ∙ subst (λ cell. fault_word c.turn.new.pass cell ≡ turn_faults (faults_of g.D.Disk.faults) t)
          (sym c.in-Some.ensures.cell) c.in-Some.ensures.faults.0);
      sound = sound-as g.D.Disk.seen g.D.Disk.may_leave c.hold.new.slot t c.hold.ensures
          c.in-Some.ensures.sound;
    }

pub invariant_of-self-in_default : goal.invariant_of-self-in_default
invariant_of-self-in_default g c =
    let v = c.leave.new.self in
    let k = known v.pass in
    let absent = rw c.in_default.is at c.turn.ensures.absent in
    let idle = subst (IsVisit v.site.now.names v.site.now.limit k) c.leave.ensures.free v.visit in
    record {
      seated = c.turn.ensures.own ∙ v.seated;
      numbered = ap (λ (x : Known CellAbout LogEntry). x.numbers) absent.2 ∙ v.numbered;
      opened = v.opened;
      visit = subst (IsVisit v.site.now.names v.site.now.limit (known c.turn.new.pass))
          (sym c.leave.ensures.free)
          (barred-visit k (known c.turn.new.pass) c.args.cell absent.0 absent.2 v.site.now.names
          v.site.now.limit idle);
      noted = λ t e. absurd (none-some t (sym c.leave.ensures.free ∙ e));
      sound = λ t e. absurd (none-some t (sym c.leave.ensures.free ∙ e));
    }

pub returns-in_default-clause-err : goal.returns-in_default-clause-err
returns-in_default-clause-err g c =
    let v = c.leave.new.self in
    let k = known v.pass in
    let absent = rw c.in_default.is at c.turn.ensures.absent in
    let within = subst (λ (w : Writer). c.args.cell < length w.seen) (sym c.leave.ensures.writer)
    c.requires in
    let wide = wide-at k v.pass.seat.table_id v.site.now.table.board.shared.table_id
    v.site.now.table.cells (cells_in v.site.now.names + 1) v.pass.wide v.seated
    v.site.now.table.slots v.site.now.sized in
    let seen = wide.seen in
    let barred = wide.barred in (
      refl,
      ap (λ l. writer_in (known c.turn.new.pass) l v.own.items) c.in-Ok.ensures.items
          ∙ (barred-writer k (known c.turn.new.pass) c.args.cell absent.0 absent.2 v.marks.items
          v.own.items (omega (arith, seen, barred, within))
          ∙ ap (λ w. barred_at w c.args.cell) c.leave.ensures.writer),
    )

pub returns-in_default-clause-later : goal.returns-in_default-clause-later
returns-in_default-clause-later g c =
    let old = c.args.self.now in
    let v = c.leave.new.self in
    let k = known v.pass in
    let absent = rw c.in_default.is at c.turn.ensures.absent in
    let left = c.leave.ensures.later in (
      left.0,
      later-on old.site.now.names (sight_in (known old.pass)) (sight_in k)
          (sight_in (known c.turn.new.pass)) left.1
          (barred-later k (known c.turn.new.pass) c.args.cell absent.0 absent.2 old.site.now.names),
    )

pub returns-clause-ok : goal.returns-clause-ok
returns-clause-ok g c =
    let v = c.leave.new.self in
    let k = known v.pass in
    let t = c.in-Some.turn in
    let took = c.in-Some.ensures.took in
    let same = c.leave.ensures.writer in
    let within = subst (λ (w : Writer). c.args.cell < length w.seen) (sym same) c.requires in
    let wide = wide-at k v.pass.seat.table_id v.site.now.table.board.shared.table_id
    v.site.now.table.cells (cells_in v.site.now.names + 1) v.pass.wide v.seated
    v.site.now.table.slots v.site.now.sized in
    let seen = wide.seen in
    let looks = wide.looks in
    let pushed : c.push_reserved.new.self.items
    ≡ v.marks.items ++ record { cell = c.args.cell; upto = c.len-upto.result } ∷ [] =
    c.push_reserved.ensures.items
    ∙ ap (λ l. l ++ record { cell = c.args.cell; upto = c.len-upto.result } ∷ [])
    c.in-Ok.ensures.items in
    subst (λ (w : Writer). LooksAt w
    (writer_in (known c.look.new.pass) c.push_reserved.new.self.items v.own.items) c.args.cell) same
    (looked-writer k (known c.turn.new.pass) (known c.look.new.pass) c.args.cell took.0 t
    c.in-Some.ensures.cell took.2 c.look.ensures.looked c.len-upto.result v.marks.items
    c.push_reserved.new.self.items v.own.items (omega (arith, seen, looks, within))
    c.look.ensures.others
    (c.len-upto.ensures ∙ ap length (log-there t c.state.result.now c.state.ensures)) pushed)

pub returns-clause-later : goal.returns-clause-later
returns-clause-later g c =
    let old = c.args.self.now in
    let v = c.leave.new.self in
    let k = known v.pass in
    let t = c.in-Some.turn in
    let took = c.in-Some.ensures.took in
    let left = c.leave.ensures.later in
    let idle = subst (IsVisit v.site.now.names v.site.now.limit k) c.leave.ensures.free v.visit in
    let within = subst (λ (w : Writer). c.args.cell < length w.seen) (sym c.leave.ensures.writer)
    c.requires in
    let wide = wide-at k v.pass.seat.table_id v.site.now.table.board.shared.table_id
    v.site.now.table.cells (cells_in v.site.now.names + 1) v.pass.wide v.seated
    v.site.now.table.slots v.site.now.sized in
    let seen = wide.seen in
    let looks = wide.looks in (
      left.0,
      later-on old.site.now.names (sight_in (known old.pass)) (sight_in k)
          (sight_in (known c.look.new.pass)) left.1
          (subst (λ ns. IsLater ns (sight_in k) (sight_in (known c.look.new.pass)))
          (ap (λ s. s.names) left.0)
          (looked-later k (known c.turn.new.pass) (known c.look.new.pass) c.args.cell took.0 t
          c.in-Some.ensures.cell took.2 c.look.ensures.looked g.D.Disk.seen g.D.Disk.may_leave g.D.Disk.faults
          v.site.now.names v.site.now.limit idle c.look.ensures.glimpse (omega (arith, seen, looks, within)) within
          c.look.ensures.others)),
    )
