use Rattle.std.proofs.Common.{ap}
use Rattle.exchange_rules.specs.Rows.{Layout}
use Rattle.turn_table.specs.Calls.{known}
use Rattle.update_sink.specs.Topics.{sink_of}
use Rattle.running_site.specs.Passes.{writer_in, writer_of}
use Rattle.running_site.specs.Sites.{layout_at}
use Rattle.running_site.proofs.CallLemmas.{at-site}
use Rattle.site_threads.specs.Work.{run, HasWorked, IsRun}
use Rattle.site_threads.proofs.WorkLemmas.{run-begins, work-one}
use Rattle.site_threads.proofs.delivering.run.Goals as goal

pub returns-clause-work : goal.returns-clause-work
returns-clause-work g c =
    let site = c.args.site.now in
    let v = c.visit-visit.result in
    let w = c.run_topic-result.new.site in
    let here = writer_in (known v.pass) v.marks.items v.own.items in
    let there = writer_in (known w.pass) w.marks.items w.own.items in
    let l = layout_at v.site.now in
    at-site (λ a b (m : Layout). HasWorked m IsRun a b) (writer_of c.args.pass.now) here there
    (writer_of c.end.new.pass) (layout_at site) l
    c.visit-visit.ensures.writer c.end.ensures.writer
    (ap (λ s. layout_at s) c.visit-visit.ensures.site)
    (work-one l IsRun here there (run (sink_of c.args.delivery.now)) tt
    (run-begins here there _ c.run_topic-result.result c.run_topic-result.ensures.course))
