use Rattle.std.proofs.Common.{◌∙◌, ap, subst}
use Rattle.std.specs.Prelude.{OnOk}
use Rattle.exchange_rules.specs.Rows.{Layout}
use Rattle.turn_table.specs.Calls.{known}
use Rattle.running_site.specs.Passes.{writer_in, writer_of}
use Rattle.running_site.specs.Sites.{layout_at}
use Rattle.running_site.proofs.CallLemmas.{at-site}
use Rattle.update_sink.specs.Topics.{sink_of}
use Rattle.load_rules.specs.Worked.{HasDelivered}
use Rattle.load_mix.proofs.RunLemmas.{if-delivered, load-there}
use Rattle.load_mix.proofs.delivering.deliver.Goals as goal

pub run_topic-result-requires-clause-there : goal.run_topic-result-requires-clause-there
run_topic-result-requires-clause-there g c κs within =
    load-there c.visit-visit.result.site.now.names (sink_of c.args.delivery.now)
    (ap (λ site. site.names) c.visit-visit.ensures.site ∙ c.requires.names)
    c.requires.delivery.is

pub returns-in-Ok-clause-done : goal.returns-in-Ok-clause-done
returns-in-Ok-clause-done g c =
    let site = c.args.site.now in
    let v = c.visit-visit.result in
    let w = c.run_topic-result.new.site in
    let here = writer_in (known v.pass) v.marks.items v.own.items in
    let there = writer_in (known w.pass) w.marks.items w.own.items in
    let l = layout_at v.site.now in
    let r = c.run_topic-result in
    let done = if-delivered l (sink_of c.args.delivery.now) here there r.result
    (ap (λ s. s.names) c.visit-visit.ensures.site ∙ c.requires.names) c.requires.delivery.is
    r.ensures.course r.ensures.kept r.ensures.delivered in
    at-site (λ a b (m : Layout). HasDelivered a b) (writer_of c.args.pass.now) here there
    (writer_of c.end.new.pass) (layout_at site) l c.visit-visit.ensures.writer
    c.end.ensures.writer (ap (λ s. layout_at s) c.visit-visit.ensures.site)
    (subst (λ x. OnOk x (HasDelivered here there)) c.in-Ok.is done)
