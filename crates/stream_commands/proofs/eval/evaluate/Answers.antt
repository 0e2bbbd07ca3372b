use Rattle.std.proofs.Common.{◌∙◌, ap}
use Rattle.turn_table.specs.Calls.{known}
use Rattle.running_site.specs.Passes.{layout_in, writer_in}
use Rattle.running_site.specs.Sites.{layout_at}
use Rattle.stream_commands.proofs.AloneLemmas.{carried_alone, carried_meant}
use Rattle.stream_commands.proofs.eval.evaluate.Goals as goal

pub returns-clause-alone : goal.returns-clause-alone
returns-clause-alone g c =
    let v = c.visit-visit.result in
    let w = c.run_plain_expression-outcome.new.site in
    let begun = c.in_ok-site.ensures.site in
    let here = c.run_plain_expression-outcome.ensures.stays.home ∙ c.visit-visit.ensures.site in
    let own = c.watch.ensures.alone (ap (λ s. s.passes) here ∙ begun.2) in
    carried_alone c.args.names c.args.bytes.now c.run_plain_expression-outcome.result
    (writer_in (known v.pass) v.marks.items v.own.items)
    (writer_in (known w.pass) w.marks.items w.own.items)
    (layout_in v.site.now.names v.site.now.limit)
    (c.visit-visit.ensures.writer ∙ c.in_ok-site.ensures.new)
    (ap layout_at c.visit-visit.ensures.site ∙ (λ i. layout_in (begun.0 i) (begun.1 i))) own.own
    c.run_plain_expression-outcome.ensures.course

pub returns-clause-meant : goal.returns-clause-meant
returns-clause-meant g c =
    let v = c.visit-visit.result in
    let w = c.run_plain_expression-outcome.new.site in
    let begun = c.in_ok-site.ensures.site in
    let here = c.run_plain_expression-outcome.ensures.stays.home ∙ c.visit-visit.ensures.site in
    let own = c.watch.ensures.alone (ap (λ s. s.passes) here ∙ begun.2) in
    carried_meant c.args.names c.args.bytes.now c.run_plain_expression-outcome.result
    (writer_in (known v.pass) v.marks.items v.own.items)
    (writer_in (known w.pass) w.marks.items w.own.items)
    (layout_in v.site.now.names v.site.now.limit)
    (c.visit-visit.ensures.writer ∙ c.in_ok-site.ensures.new)
    (ap layout_at c.visit-visit.ensures.site ∙ (λ i. layout_in (begun.0 i) (begun.1 i))) own.own
    c.run_plain_expression-outcome.ensures.course
