use Rattle.std.proofs.Common.{◌∙◌, ap, subst}
use Rattle.std.specs.Prelude.{IfErr, IfOk, Some}
use Rattle.exchange_rules.specs.Following.{Writer}
use Rattle.exchange_rules.specs.Rows.{Layout}
use Rattle.turn_table.specs.Calls.{known}
use Rattle.running_site.specs.Passes.{layout_in, writer_in, writer_of}
use Rattle.running_site.specs.Sites.{layout_at, IsPassAt}
use Rattle.running_site.proofs.CallLemmas.{at-site}
use Rattle.exchange_rules.specs.Topics.{run_course}
use Rattle.update_sink.specs.Promises.{HasDelivered, HasStood, IsKept, IsRunAlone, IsUnstoredBy}
use Rattle.update_sink.specs.Promises.{stand_of}
use Rattle.update_sink.specs.Runs.{IsRun}
use Rattle.update_sink.specs.Topics.{asked_of, batches_over, key_of, run_of, sink_of}
use Rattle.pass_calls.proofs.SameLemmas.{run-same}
use Rattle.pass_calls.proofs.writing.run_topic.Goals as goal

pub returns-clause-own : goal.returns-clause-own
returns-clause-own g c =
    subst (λ s. IsPassAt s c.end.new.pass) (c.run_topic-result.ensures.home ∙
    c.visit-visit.ensures.site)
    c.end.ensures.own

pub returns-clause-number : goal.returns-clause-number
returns-clause-number g c =
    let v = c.visit-visit.result in
    let w = c.run_topic-result.new.site in
    ap (λ (x : Writer). x.me) c.end.ensures.writer
    ∙ (run-same (writer_in (known v.pass) v.marks.items v.own.items) (writer_in (known w.pass)
    w.marks.items w.own.items) _ c.run_topic-result.result c.run_topic-result.ensures.course ∙ ap (λ
    (x : Writer). x.me) c.visit-visit.ensures.writer)

pub returns-clause-course : goal.returns-clause-course
returns-clause-course g c =
    let site = c.args.site.now in
    let v = c.visit-visit.result in
    let w = c.run_topic-result.new.site in
    at-site (λ a b (l : Layout). IsRun a b (run_course l (asked_of (sink_of
    c.args.delivery.now).topic (Some (sink_of c.args.delivery.now).dest)) (sink_of
    c.args.delivery.now).dest (batches_over (sink_of c.args.delivery.now)) run_of)
    c.run_topic-result.result)
    (writer_of c.args.pass.now) (writer_in (known v.pass) v.marks.items v.own.items)
    (writer_in (known w.pass) w.marks.items w.own.items) (writer_of c.end.new.pass) (layout_at site)
    (layout_in v.site.now.names v.site.now.limit) c.visit-visit.ensures.writer
    c.end.ensures.writer (ap layout_at c.visit-visit.ensures.site)
    c.run_topic-result.ensures.course

pub returns-clause-kept : goal.returns-clause-kept
returns-clause-kept g c =
    let site = c.args.site.now in
    let v = c.visit-visit.result in
    let w = c.run_topic-result.new.site in
    at-site (λ a b (l : Layout). IfOk c.run_topic-result.result (IsKept l b (sink_of
    c.args.delivery.now)))
    (writer_of c.args.pass.now) (writer_in (known v.pass) v.marks.items v.own.items)
    (writer_in (known w.pass) w.marks.items w.own.items) (writer_of c.end.new.pass) (layout_at site)
    (layout_in v.site.now.names v.site.now.limit) c.visit-visit.ensures.writer
    c.end.ensures.writer (ap layout_at c.visit-visit.ensures.site)
    c.run_topic-result.ensures.kept

pub returns-clause-delivered : goal.returns-clause-delivered
returns-clause-delivered g c =
    let site = c.args.site.now in
    let v = c.visit-visit.result in
    let w = c.run_topic-result.new.site in
    at-site (λ a b (l : Layout). IfOk c.run_topic-result.result (HasDelivered a b (sink_of
    c.args.delivery.now)))
    (writer_of c.args.pass.now) (writer_in (known v.pass) v.marks.items v.own.items)
    (writer_in (known w.pass) w.marks.items w.own.items) (writer_of c.end.new.pass) (layout_at site)
    (layout_in v.site.now.names v.site.now.limit) c.visit-visit.ensures.writer
    c.end.ensures.writer (ap layout_at c.visit-visit.ensures.site)
    c.run_topic-result.ensures.delivered

pub returns-clause-alone : goal.returns-clause-alone
returns-clause-alone g c =
    let site = c.args.site.now in
    let v = c.visit-visit.result in
    let w = c.run_topic-result.new.site in
    at-site (λ a b (l : Layout). IsRunAlone (key_of (sink_of c.args.delivery.now).topic) (sink_of
    c.args.delivery.now).topic.collection a b)
    (writer_of c.args.pass.now) (writer_in (known v.pass) v.marks.items v.own.items)
    (writer_in (known w.pass) w.marks.items w.own.items) (writer_of c.end.new.pass) (layout_at site)
    (layout_in v.site.now.names v.site.now.limit) c.visit-visit.ensures.writer
    c.end.ensures.writer (ap layout_at c.visit-visit.ensures.site)
    c.run_topic-result.ensures.alone

pub returns-clause-unstored : goal.returns-clause-unstored
returns-clause-unstored g c =
    let site = c.args.site.now in
    let v = c.visit-visit.result in
    let w = c.run_topic-result.new.site in
    at-site (λ a b (l : Layout). IfErr c.run_topic-result.result
    (λ stop. IsUnstoredBy l.names a b stop.fault))
    (writer_of c.args.pass.now) (writer_in (known v.pass) v.marks.items v.own.items)
    (writer_in (known w.pass) w.marks.items w.own.items) (writer_of c.end.new.pass) (layout_at site)
    (layout_in v.site.now.names v.site.now.limit) c.visit-visit.ensures.writer
    c.end.ensures.writer (ap layout_at c.visit-visit.ensures.site)
    c.run_topic-result.ensures.unstored

pub returns-clause-stood : goal.returns-clause-stood
returns-clause-stood g c =
    let site = c.args.site.now in
    let v = c.visit-visit.result in
    let w = c.run_topic-result.new.site in
    at-site (λ a b (l : Layout). HasStood a b (stand_of c.run_topic-result.result))
    (writer_of c.args.pass.now) (writer_in (known v.pass) v.marks.items v.own.items)
    (writer_in (known w.pass) w.marks.items w.own.items) (writer_of c.end.new.pass) (layout_at site)
    (layout_in v.site.now.names v.site.now.limit) c.visit-visit.ensures.writer
    c.end.ensures.writer (ap layout_at c.visit-visit.ensures.site)
    c.run_topic-result.ensures.stood
