use Rattle.std.proofs.Common.{refl}
use Rattle.std.specs.Prelude.{Some, Err}
use Rattle.exchange_rules.specs.Courses.{ends}
use Rattle.exchange_rules.specs.Topics.{run_course}
use Rattle.update_sink.specs.Topics.{asked_of, batches_over, key_of, run_of, sink_of}
use Rattle.root_runs.specs.Dones.{delivered}
use Rattle.root_runs.proofs.CarriedLemmas.{first_answered, stopped_with}
use Rattle.root_runs.proofs.following.deliver_there.Goals as goal

pub returns-in-Ok-clause-course : goal.returns-in-Ok-clause-course
returns-in-Ok-clause-course g c =
    let w = g.T.Turns.writer c.args.site.now in
    let new = g.T.Turns.writer c.run_topic.new.site in
    let l = g.T.Turns.layout c.args.site.now in
    let s = sink_of c.args.delivery.now in
    rw c.listed.ensures
    (first_answered w new
    (run_course l (asked_of s.topic (Some s.dest)) s.dest (batches_over s) run_of)
    (λ r. ends (delivered (key_of s.topic) r)) _ _ refl c.in-Ok.ensures.course)

pub returns-in-Err-clause-course : goal.returns-in-Err-clause-course
returns-in-Err-clause-course g c =
    let w = g.T.Turns.writer c.args.site.now in
    let new = g.T.Turns.writer c.run_topic.new.site in
    let l = g.T.Turns.layout c.args.site.now in
    let s = sink_of c.args.delivery.now in
    stopped_with w new (run_course l (asked_of s.topic (Some s.dest)) s.dest (batches_over s) run_of)
    (λ r. ends (delivered (key_of s.topic) r)) (delivered (key_of s.topic) (Err c.in-Err.stop))
    c.in-Err.stop c.in-Err.stop.fault c.delivery_stopped.result c.in-Err.ensures.course refl
    c.delivery_stopped.ensures
