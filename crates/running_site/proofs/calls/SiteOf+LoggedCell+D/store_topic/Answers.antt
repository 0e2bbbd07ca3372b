use Rattle.std.proofs.Common.{ap, ◌∙◌, subst}
use Rattle.exchange_rules.specs.Calls.{Answered}
use Rattle.exchange_rules.specs.Bindings.{store_course}
use Rattle.exchange_rules.specs.Following.{Writer}
use Rattle.exchange_rules.specs.Rows.{Layout}
use Rattle.once_core.specs.Allowed.{MayStore}
use Rattle.site_laws.specs.SiteCells.{histories_in}
use Rattle.turn_table.specs.Calls.{known}
use Rattle.running_site.specs.Passes.{layout_in, writer_in, writer_of, IsPassOf}
use Rattle.running_site.proofs.CallLemmas.{answered-same, at-site, from-site}
use Rattle.running_site.proofs.calls.SiteOf+LoggedCell+D.store_topic.Goals as goal

pub store_topic_over-result-requires : goal.store_topic_over-result-requires
store_topic_over-result-requires g c =
    let site = c.args.self.now in
    let v = c.visit-visit.result in
    from-site (λ w l. MayStore l.names (histories_in l.names w.seen) c.args.key.now c.args.upto)
    (writer_of c.args.pass.now) (writer_in (known v.pass) v.marks.items v.own.items)
    (layout_in site.names site.limit) (layout_in v.site.now.names v.site.now.limit)
    c.visit-visit.ensures.writer
    (ap (λ s. layout_in s.names s.limit) c.visit-visit.ensures.site) c.requires.delivered

pub returns-clause-own : goal.returns-clause-own
returns-clause-own g c =
    subst (λ s. IsPassOf s.table.board.shared.table_id s.table.board.shared.key
    (layout_in s.names s.limit) c.end.new.pass)
    (c.store_topic_over-result.ensures.home ∙ c.visit-visit.ensures.site) c.end.ensures.own

pub returns-clause-number : goal.returns-clause-number
returns-clause-number g c =
    let v = c.visit-visit.result in
    let w = c.store_topic_over-result.new.site in
    ap (λ (x : Writer). x.me) c.end.ensures.writer
    ∙ (answered-same (writer_in (known v.pass) v.marks.items v.own.items)
    (writer_in (known w.pass) w.marks.items w.own.items) _ c.store_topic_over-result.result
    c.store_topic_over-result.ensures.course ∙ ap (λ (x : Writer). x.me) c.visit-visit.ensures.writer)

pub returns-clause-course : goal.returns-clause-course
returns-clause-course g c =
    let site = c.args.self.now in
    let v = c.visit-visit.result in
    let w = c.store_topic_over-result.new.site in
    at-site (λ a b (l : Layout). Answered a b (store_course l.names c.args.key.now c.args.upto)
    c.store_topic_over-result.result) (writer_of c.args.pass.now)
    (writer_in (known v.pass) v.marks.items v.own.items)
    (writer_in (known w.pass) w.marks.items w.own.items) (writer_of c.end.new.pass)
    (layout_in site.names site.limit) (layout_in v.site.now.names v.site.now.limit)
    c.visit-visit.ensures.writer c.end.ensures.writer
    (ap (λ s. layout_in s.names s.limit) c.visit-visit.ensures.site)
    c.store_topic_over-result.ensures.course
