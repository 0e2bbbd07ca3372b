use Rattle.std.proofs.Common.{sym, subst}
use Rattle.std.specs.Prelude.{IfErr, IfOk, Some}
use Rattle.exchange_rules.specs.Following.{Writer}
use Rattle.exchange_rules.specs.Topics.{run_course}
use Rattle.update_sink.specs.Promises.{HasDelivered, HasStood, IsKept, IsRunAlone, IsUnstoredBy, stand_of}
use Rattle.update_sink.specs.Runs.{IsRun}
use Rattle.update_sink.specs.Topics.{asked_of, key_of, batches_over, run_of, sink_of}
use Rattle.update_sink.proofs.DeliveredLemmas.{if-delivered}
use Rattle.update_sink.proofs.PromiseLemmas.{run-alone, run-stood}
use Rattle.update_sink.proofs.running.run_topic.Goals as goal

pub returns-clause-course : goal.returns-clause-course
returns-clause-course g c =
    let w = g.T.Turns.writer c.args.site.now in
    let l = g.T.Turns.layout c.args.site.now in
    let s = sink_of c.args.delivery.now in
    subst (λ (x : Writer). IsRun w x (run_course l (asked_of s.topic (Some s.dest)) s.dest
    (batches_over s) run_of) c.run_delivery-result.result) (sym c.leave.ensures.writer)
    c.run_delivery-result.ensures.course

pub returns-clause-kept : goal.returns-clause-kept
returns-clause-kept g c =
    let l = g.T.Turns.layout c.args.site.now in
    subst (λ (x : Writer). IfOk c.run_delivery-result.result
    (IsKept l x (sink_of c.args.delivery.now))) (sym c.leave.ensures.writer)
    c.run_delivery-result.ensures.kept

pub returns-clause-unstored : goal.returns-clause-unstored
returns-clause-unstored g c =
    let w = g.T.Turns.writer c.args.site.now in
    subst (λ (x : Writer). IfErr c.run_delivery-result.result
    (λ stop. IsUnstoredBy (g.T.Turns.layout c.args.site.now).names w x stop.fault))
    (sym c.leave.ensures.writer) c.run_delivery-result.ensures.unstored

pub returns-clause-alone : goal.returns-clause-alone
returns-clause-alone g c =
    let w = g.T.Turns.writer c.args.site.now in
    let mid = g.T.Turns.writer c.run_delivery-result.new.site in
    let l = g.T.Turns.layout c.args.site.now in
    let s = sink_of c.args.delivery.now in
    subst (λ (x : Writer). IsRunAlone (key_of s.topic) s.topic.collection w x)
    (sym c.leave.ensures.writer)
    (run-alone w mid l (asked_of s.topic (Some s.dest)) s.dest (batches_over s) run_of
    c.run_delivery-result.result c.run_delivery-result.ensures.course)

pub returns-clause-stood : goal.returns-clause-stood
returns-clause-stood g c =
    let w = g.T.Turns.writer c.args.site.now in
    let mid = g.T.Turns.writer c.run_delivery-result.new.site in
    let l = g.T.Turns.layout c.args.site.now in
    let s = sink_of c.args.delivery.now in
    let r = c.run_delivery-result.result in
    subst (λ (x : Writer). HasStood w x (stand_of r)) (sym c.leave.ensures.writer)
    (run-stood w mid l (asked_of s.topic (Some s.dest)) s.dest (batches_over s) r
    c.run_delivery-result.ensures.course)

pub returns-clause-delivered : goal.returns-clause-delivered
returns-clause-delivered g c =
    let w = g.T.Turns.writer c.args.site.now in
    let mid = g.T.Turns.writer c.run_delivery-result.new.site in
    let l = g.T.Turns.layout c.args.site.now in
    let s = sink_of c.args.delivery.now in
    let r = c.run_delivery-result.result in
    subst (λ (x : Writer). IfOk r (HasDelivered w x s)) (sym c.leave.ensures.writer)
    (if-delivered w mid l s r c.run_delivery-result.ensures.course)
