use Rattle.std.proofs.Common.{ap, ◌∙◌, subst}
use Rattle.exchange_rules.specs.Calls.{Completed}
use Rattle.exchange_rules.specs.Bindings.{topic_state_course}
use Rattle.exchange_rules.specs.Following.{Writer}
use Rattle.exchange_rules.specs.Rows.{Layout}
use Rattle.turn_table.specs.Calls.{known}
use Rattle.running_site.specs.Passes.{layout_in, writer_in, writer_of, IsPassOf}
use Rattle.running_site.proofs.CallLemmas.{at-site, completed-same}
use Rattle.running_site.proofs.calls.SiteOf+LoggedCell+D.topic_state.Goals as goal

pub returns-clause-own : goal.returns-clause-own
returns-clause-own g c =
    subst (λ s. IsPassOf s.table.board.shared.table_id s.table.board.shared.key
    (layout_in s.names s.limit) c.end.new.pass)
    (c.topic_state_over-result.ensures.home ∙ c.visit-visit.ensures.site) c.end.ensures.own

pub returns-clause-number : goal.returns-clause-number
returns-clause-number g c =
    let v = c.visit-visit.result in
    let w = c.topic_state_over-result.new.site in
    ap (λ (x : Writer). x.me) c.end.ensures.writer
    ∙ (completed-same (writer_in (known v.pass) v.marks.items v.own.items)
    (writer_in (known w.pass) w.marks.items w.own.items) _ c.topic_state_over-result.result
    c.topic_state_over-result.ensures.course ∙ ap (λ (x : Writer). x.me) c.visit-visit.ensures.writer)

pub returns-clause-course : goal.returns-clause-course
returns-clause-course g c =
    let site = c.args.self.now in
    let v = c.visit-visit.result in
    let w = c.topic_state_over-result.new.site in
    at-site (λ a b (l : Layout). Completed a b (topic_state_course l.names c.args.key.now)
    c.topic_state_over-result.result) (writer_of c.args.pass.now)
    (writer_in (known v.pass) v.marks.items v.own.items)
    (writer_in (known w.pass) w.marks.items w.own.items) (writer_of c.end.new.pass)
    (layout_in site.names site.limit) (layout_in v.site.now.names v.site.now.limit)
    c.visit-visit.ensures.writer c.end.ensures.writer
    (ap (λ s. layout_in s.names s.limit) c.visit-visit.ensures.site)
    c.topic_state_over-result.ensures.course
