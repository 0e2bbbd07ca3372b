use Rattle.std.proofs.Common.{◌∙◌, ap, subst}
use Rattle.std.specs.Prelude.{None}
use Rattle.exchange_rules.specs.Following.{Writer}
use Rattle.exchange_rules.specs.Rows.{Layout}
use Rattle.turn_table.specs.Calls.{known}
use Rattle.running_site.specs.Passes.{layout_in, writer_in, writer_of}
use Rattle.running_site.specs.Sites.{layout_at, IsPassAt}
use Rattle.running_site.proofs.CallLemmas.{at-site}
use Rattle.exchange_rules.specs.Calls.{Answered}
use Rattle.exchange_rules.specs.Topics.{read_course}
use Rattle.expr_check.specs.Roots.{topic_parts}
use Rattle.update_sink.specs.Topics.{asked_of, read_of}
use Rattle.running_site.proofs.CallLemmas.{answered-same}
use Rattle.pass_calls.proofs.writing.read_topic.Goals as goal

pub returns-clause-own : goal.returns-clause-own
returns-clause-own g c =
    subst (λ s. IsPassAt s c.end.new.pass) (c.read_topic-result.ensures.home ∙
    c.visit-visit.ensures.site)
    c.end.ensures.own

pub returns-clause-number : goal.returns-clause-number
returns-clause-number g c =
    let v = c.visit-visit.result in
    let w = c.read_topic-result.new.site in
    ap (λ (x : Writer). x.me) c.end.ensures.writer
    ∙ (answered-same (writer_in (known v.pass) v.marks.items v.own.items) (writer_in (known w.pass)
    w.marks.items w.own.items) _ c.read_topic-result.result c.read_topic-result.ensures.course ∙ ap
    (λ (x : Writer). x.me) c.visit-visit.ensures.writer)

pub returns-clause-course : goal.returns-clause-course
returns-clause-course g c =
    let site = c.args.site.now in
    let v = c.visit-visit.result in
    let w = c.read_topic-result.new.site in
    at-site (λ a b (l : Layout). Answered a b (read_course l.names (asked_of (topic_parts
    c.args.topic.now) None) (read_of (topic_parts c.args.topic.now))) c.read_topic-result.result)
    (writer_of c.args.pass.now) (writer_in (known v.pass) v.marks.items v.own.items)
    (writer_in (known w.pass) w.marks.items w.own.items) (writer_of c.end.new.pass) (layout_at site)
    (layout_in v.site.now.names v.site.now.limit) c.visit-visit.ensures.writer
    c.end.ensures.writer (ap layout_at c.visit-visit.ensures.site)
    c.read_topic-result.ensures.course
