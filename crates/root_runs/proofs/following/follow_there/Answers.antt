use Rattle.std.proofs.Common.{refl, sym, ap, subst, ◌∙◌}
use Rattle.std.specs.Prelude.{None, Ok, Err}
use Rattle.exchange_rules.specs.Courses.{ends}
use Rattle.exchange_rules.specs.Following.{Answers}
use Rattle.exchange_rules.specs.Topics.{read_course}
use Rattle.expr_check.specs.Roots.{topic_parts}
use Rattle.update_sink.specs.Topics.{asked_of, key_of, read_of}
use Rattle.root_runs.specs.Dones.{followed, given}
use Rattle.root_runs.specs.Runs.{follow_course}
use Rattle.root_runs.proofs.CarriedLemmas.{first_answered, refused_with}
use Rattle.root_runs.proofs.following.follow_there.Goals as goal

pub returns-in-Ok-clause-course : goal.returns-in-Ok-clause-course
returns-in-Ok-clause-course g c =
    let w = g.T.Turns.writer c.args.site.now in
    let new = g.T.Turns.writer c.read_topic.new.site in
    let l = g.T.Turns.layout c.args.site.now in
    let p = topic_parts c.args.topic.now in
    subst (λ d. Answers w new (follow_course l p) d) (sym (c.given.ensures ∙ ap given c.listed.ensures))
    (first_answered w new (read_course l.names (asked_of p None) (read_of p))
    (λ r. ends (followed (key_of p) r)) (Ok c.in-Ok.read) (given c.in-Ok.read.tuples) refl
    c.in-Ok.ensures.course)

pub returns-in-Err-clause-course : goal.returns-in-Err-clause-course
returns-in-Err-clause-course g c =
    let w = g.T.Turns.writer c.args.site.now in
    let new = g.T.Turns.writer c.read_topic.new.site in
    let l = g.T.Turns.layout c.args.site.now in
    let p = topic_parts c.args.topic.now in
    refused_with w new (read_course l.names (asked_of p None) (read_of p))
    (λ r. ends (followed (key_of p) r)) (followed (key_of p) (Err c.in-Err.fault)) c.in-Err.fault
    c.follow_refused.result c.in-Err.ensures.course refl c.follow_refused.ensures
