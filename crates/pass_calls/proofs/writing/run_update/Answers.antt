use Rattle.std.proofs.Common.{◌∙◌, ap, subst}
use Rattle.exchange_rules.specs.Following.{Writer}
use Rattle.exchange_rules.specs.Rows.{Layout}
use Rattle.turn_table.specs.Calls.{known}
use Rattle.running_site.specs.Passes.{layout_in, writer_in, writer_of}
use Rattle.running_site.specs.Sites.{layout_at, IsPassAt}
use Rattle.running_site.proofs.CallLemmas.{at-site}
use Rattle.exchange_rules.specs.Calls.{Carried}
use Rattle.exchange_rules.specs.Updates.{tuples_course}
use Rattle.pass_calls.proofs.SameLemmas.{carried-same}
use Rattle.pass_calls.proofs.writing.run_update.Goals as goal

pub returns-clause-own : goal.returns-clause-own
returns-clause-own g c =
    subst (λ s. IsPassAt s c.end.new.pass) (c.run_update-result.ensures.home ∙
    c.visit-visit.ensures.site)
    c.end.ensures.own

pub returns-clause-number : goal.returns-clause-number
returns-clause-number g c =
    let v = c.visit-visit.result in
    let w = c.run_update-result.new.site in
    ap (λ (x : Writer). x.me) c.end.ensures.writer
    ∙ (carried-same (writer_in (known v.pass) v.marks.items v.own.items) (writer_in (known w.pass)
    w.marks.items w.own.items) _ c.run_update-result.result c.run_update-result.ensures.course ∙ ap
    (λ (x : Writer). x.me) c.visit-visit.ensures.writer)

pub returns-clause-course : goal.returns-clause-course
returns-clause-course g c =
    let site = c.args.site.now in
    let v = c.visit-visit.result in
    let w = c.run_update-result.new.site in
    at-site (λ a b (l : Layout). Carried a b (tuples_course l c.args.dest.now c.args.batch_size
    c.args.tuples) c.run_update-result.result)
    (writer_of c.args.pass.now) (writer_in (known v.pass) v.marks.items v.own.items)
    (writer_in (known w.pass) w.marks.items w.own.items) (writer_of c.end.new.pass) (layout_at site)
    (layout_in v.site.now.names v.site.now.limit) c.visit-visit.ensures.writer
    c.end.ensures.writer (ap layout_at c.visit-visit.ensures.site)
    c.run_update-result.ensures.course
