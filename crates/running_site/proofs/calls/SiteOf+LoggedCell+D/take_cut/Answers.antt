use Rattle.std.proofs.Common.{[], sym, ap, ◌∙◌, subst}
use Rattle.exchange_rules.specs.Calls.{Completed}
use Rattle.exchange_rules.specs.Rows.{cut_course}
use Rattle.exchange_rules.specs.Following.{Writer}
use Rattle.exchange_rules.specs.Rows.{Layout}
use Rattle.site_laws.specs.Looks.{IsLater}
use Rattle.turn_table.specs.Calls.{known}
use Rattle.running_site.specs.Passes.{layout_in, sight_in, sight_of, writer_in, writer_of, IsPassOf}
use Rattle.running_site.proofs.CallLemmas.{at-site, completed-same}
use Rattle.running_site.proofs.CutLemmas.{stored-ok}
use Rattle.running_site.proofs.StartLemmas.{looks-same, since-of}
use Rattle.running_site.proofs.calls.SiteOf+LoggedCell+D.take_cut.Goals as goal

pub returns-clause-own : goal.returns-clause-own
returns-clause-own g c =
    subst (λ s. IsPassOf s.table.board.shared.table_id s.table.board.shared.key
    (layout_in s.names s.limit) c.end.new.pass)
    (c.take_cut_over-result.ensures.home ∙ c.visit-visit.ensures.site) c.end.ensures.own

pub returns-clause-number : goal.returns-clause-number
returns-clause-number g c =
    let v = c.visit-visit.result in
    let w = c.take_cut_over-result.new.site in
    ap (λ (x : Writer). x.me) c.end.ensures.writer
    ∙ (completed-same (writer_in (known v.pass) v.marks.items v.own.items)
    (writer_in (known w.pass) w.marks.items w.own.items) _ c.take_cut_over-result.result
    c.take_cut_over-result.ensures.course ∙ ap (λ (x : Writer). x.me) c.visit-visit.ensures.writer)

pub returns-clause-course : goal.returns-clause-course
returns-clause-course g c =
    let site = c.args.self.now in
    let v = c.visit-visit.result in
    let w = c.take_cut_over-result.new.site in
    at-site (λ a b (l : Layout). Completed a b (cut_course l.names [] c.args.collections.now)
    c.take_cut_over-result.result) (writer_of c.args.pass.now)
    (writer_in (known v.pass) v.marks.items v.own.items)
    (writer_in (known w.pass) w.marks.items w.own.items) (writer_of c.end.new.pass)
    (layout_in site.names site.limit) (layout_in v.site.now.names v.site.now.limit)
    c.visit-visit.ensures.writer c.end.ensures.writer
    (ap (λ s. layout_in s.names s.limit) c.visit-visit.ensures.site)
    c.take_cut_over-result.ensures.course

pub returns-clause-stored : goal.returns-clause-stored
returns-clause-stored g c =
    let site = c.args.self.now in
    let v = c.visit-visit.result in
    let w = c.take_cut_over-result.new.site in
    let before = c.args.pass.now in
    let after = c.end.new.pass in
    let done = at-site (λ a b (l : Layout). Completed a b
    (cut_course l.names [] c.args.collections.now) c.take_cut_over-result.result) (writer_of before)
    (writer_in (known v.pass) v.marks.items v.own.items)
    (writer_in (known w.pass) w.marks.items w.own.items) (writer_of after)
    (layout_in site.names site.limit) (layout_in v.site.now.names v.site.now.limit)
    c.visit-visit.ensures.writer c.end.ensures.writer
    (ap (λ s. layout_in s.names s.limit) c.visit-visit.ensures.site)
    c.take_cut_over-result.ensures.course in
    let own = subst (λ s. IsPassOf s.table.board.shared.table_id s.table.board.shared.key
    (layout_in s.names s.limit) after)
    (c.take_cut_over-result.ensures.home ∙ c.visit-visit.ensures.site) c.end.ensures.own in
    let later = subst (λ ns. IsLater ns (sight_in (known v.pass)) (sight_in (known w.pass)))
    (ap (λ s. s.names) c.visit-visit.ensures.site) c.take_cut_over-result.ensures.later.1 in
    let first = subst (λ x. IsLater site.names x (sight_in (known w.pass)))
    c.visit-visit.ensures.sight later in
    let last = subst (IsLater site.names (sight_of before)) (sym c.end.ensures.sight) first in
    stored-ok site.names c.args.collections.now (writer_of before) (writer_of after)
    (sight_of before) (sight_of after) c.take_cut_over-result.result done
    (looks-same before.pass before.marks.items before.own.items)
    (looks-same after.pass after.marks.items after.own.items) last
    (since-of site.table.board.shared.table_id site.table.board.shared.key site.names site.limit after.pass own)
