use Rattle.std.proofs.Common.{sym, subst}
use Rattle.std.specs.Prelude.{None}
use Rattle.expr_check.specs.Roots.{topic_parts}
use Rattle.exchange_rules.specs.Calls.{Answered}
use Rattle.exchange_rules.specs.Following.{Writer}
use Rattle.exchange_rules.specs.Topics.{read_course}
use Rattle.update_sink.specs.Topics.{asked_of, read_of}
use Rattle.update_sink.proofs.reading.read_topic.Goals as goal

pub returns-clause-course : goal.returns-clause-course
returns-clause-course g c =
    let w = g.T.Turns.writer c.args.site.now in
    let names = (g.T.Turns.layout c.args.site.now).names in
    let p = topic_parts c.args.topic.now in
    subst (λ (x : Writer). Answered w x (read_course names (asked_of p None) (read_of p))
    c.read_above-result.result) (sym c.leave.ensures.writer) c.read_above-result.ensures.course
