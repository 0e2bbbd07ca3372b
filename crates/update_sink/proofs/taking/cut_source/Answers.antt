use Rattle.std.proofs.Common.{refl}
use Rattle.exchange_rules.specs.Calls.{Completed}
use Rattle.exchange_rules.specs.Topics.{source_course}
use Rattle.exchange_rules.proofs.StepLemmas.{look_none}
use Rattle.stream_site.proofs.TestLemmas.{handed_on}
use Rattle.update_sink.proofs.taking.cut_source.Goals as goal

pub returns-in_err-copy-clause-course : goal.returns-in_err-copy-clause-course
returns-in_err-copy-clause-course g c =
    let w = g.T.Turns.writer c.args.site.now in
    let course = source_course (g.T.Turns.layout c.args.site.now).names c.args.src.now in
    handed_on (Completed w w course) _ _ c.from_residual.ensures.1 (look_none w w course refl)

pub returns-in_err-push-clause-course : goal.returns-in_err-push-clause-course
returns-in_err-push-clause-course g c =
    let w = g.T.Turns.writer c.args.site.now in
    let course = source_course (g.T.Turns.layout c.args.site.now).names c.args.src.now in
    handed_on (Completed w w course) _ _ c.from_residual-in_err-push.ensures.1
    (look_none w w course refl)
