use Rattle.std.proofs.Common.{◌≡◌, ◌⊎◌, false, true, inl, sym, refl, ap, ◌∙◌, subst}
use Rattle.exchange_rules.specs.declared.log_entry.LogEntry.{LogEntry}
use Rattle.site_laws.specs.declared.cell_about.CellAbout.{CellAbout}
use Rattle.turn_table.specs.Calls.{known}
use Rattle.turn_table.specs.declared.knowledge.Known.{Known}
use Rattle.running_site.specs.Visits.{IsVisit}
use Rattle.std.proofs.lemmas.Option.{none-some}
use Rattle.logged_cells.specs.Cells.{is_closed, IsSettled}
use Rattle.running_site.proofs.SealLemmas.{if-also}
use Rattle.running_site.proofs.LookLemmas.{sound-here}
use Rattle.running_site.proofs.LeaveLemmas.{gave-later, gave-visit}
use Rattle.running_site.proofs.writing.VisitTurns.leave.Goals as goal

pub give-requires-clause-turn : goal.give-requires-clause-turn
give-requires-clause-turn g c =
    let v = c.args.self.now in
    let visit = subst (IsVisit v.site.now.names v.site.now.limit (known v.pass))
    (sym c.take.ensures.value ∙ c.in-Some.is) v.visit in
    (visit.holding c.in-Some.turn refl).in_hand

pub give-requires-clause-about : goal.give-requires-clause-about
give-requires-clause-about g c =
    let v = c.args.self.now in
    let visit = subst (IsVisit v.site.now.names v.site.now.limit (known v.pass))
    (sym c.take.ensures.value ∙ c.in-Some.is) v.visit in
    (visit.holding c.in-Some.turn refl).suits

pub give-requires-clause-settled : goal.give-requires-clause-settled
give-requires-clause-settled g c =
    let v = c.args.self.now in
    if-also (λ cell. IsSettled g.D.Disk.seen g.D.Disk.may_leave cell × (is_closed cell ≡ false))
    (λ cell. IsSettled g.D.Disk.seen g.D.Disk.may_leave cell ⊎ (is_closed cell ≡ true))
    c.in-Some.turn.value (λ y e h. inl h.0)
    (sound-here g.D.Disk.seen g.D.Disk.may_leave v.turn c.in-Some.turn
    (sym c.take.ensures.value ∙ c.in-Some.is) v.sound)

pub give-requires-clause-noted : goal.give-requires-clause-noted
give-requires-clause-noted g c =
    let v = c.args.self.now in v.noted c.in-Some.turn (sym c.take.ensures.value ∙ c.in-Some.is)

pub invariant_of-self : goal.invariant_of-self
invariant_of-self g c =
    let v = c.args.self.now in
    let visit = subst (IsVisit v.site.now.names v.site.now.limit (known v.pass))
    (sym c.take.ensures.value ∙ c.in-Some.is) v.visit in
    record {
      seated = c.give.ensures.own ∙ v.seated;
      numbered = ap (λ (x : Known CellAbout LogEntry). x.numbers) c.give.ensures.gave
          ∙ v.numbered;
      opened = v.opened;
      visit = subst (IsVisit v.site.now.names v.site.now.limit (known c.give.new.pass))
          (sym c.take.ensures.after)
          (gave-visit v.site.now.names v.site.now.limit (known v.pass) (known c.give.new.pass)
          c.in-Some.turn c.give.ensures.gave visit c.give.ensures.free);
      noted = λ t e. absurd (none-some t (sym c.take.ensures.after ∙ e));
      sound = λ t e. absurd (none-some t (sym c.take.ensures.after ∙ e));
    }

pub returns-in-Some-clause-later : goal.returns-in-Some-clause-later
returns-in-Some-clause-later g c =
    let v = c.args.self.now in (
      refl,
      gave-later v.site.now.names v.site.now.limit (known v.pass) (known c.give.new.pass)
          c.in-Some.turn c.give.ensures.gave,
    )
