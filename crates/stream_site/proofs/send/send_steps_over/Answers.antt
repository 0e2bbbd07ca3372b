use Rattle.std.proofs.Common.{◌<◌, ◌^◌, ◌-◌, length, refl, sym, ap, subst, arith}
use Rattle.std.specs.Prelude.{Ok, Err}
use Rattle.topic_book.specs.Fitness.{shards_of}
use Rattle.exchange_rules.specs.Calls.{Answered}
use Rattle.exchange_rules.specs.Deliveries.{send_course, sent_kinds}
use Rattle.exchange_rules.proofs.StepLemmas.{nothing_done}
use Rattle.stream_site.specs.Shares.{AreRouted}
use Rattle.stream_site.proofs.SendLemmas.{batch_steps, send_answered, send_refused, sends_passed, sent_below}
use Rattle.stream_site.proofs.TestLemmas.{handed_on}
use Rattle.stream_site.proofs.send.send_steps_over.Goals as goal

pub returns-in_err-steps-clause-course : goal.returns-in_err-steps-clause-course
returns-in_err-steps-clause-course g c =
    let w = g.T.Turns.writer c.args.site.now in
    let course = send_course (g.T.Turns.layout c.args.site.now) c.args.dest.now c.args.src.now
    c.args.batch in
    handed_on (Answered w w course) _ _ c.from_residual.ensures.1 (nothing_done 0 w w course refl)

pub route_batch-requires : goal.route_batch-requires
route_batch-requires g c = subst (λ n. 0 < n) (sym c.width-shards.ensures) c.requires.known

pub deliver_all_over-requires : goal.deliver_all_over-requires
deliver_all_over-requires g c =
    let l = g.T.Turns.layout c.args.site.now in
    let w = g.T.Turns.writer c.args.site.now in
    let few : length c.args.batch < 2 ^ 64 = omega (arith, c.len-total.ensures) in
    batch_steps l.names w.me c.width-shards.result w.seen c.args.dest.now c.args.src.now
    c.args.batch c.in_ok-steps.steps.items c.requires c.width-shards.ensures
    (subst (λ n. AreRouted n c.width-shards.result (sent_kinds c.args.src.now c.args.batch)
    c.in_ok-steps.steps.items) c.number.ensures c.in_ok-steps.ensures) few

pub overflow_sub-result : goal.overflow_sub-result
overflow_sub-result g c =
    let l = g.T.Turns.layout c.args.site.now in
    let n = shards_of l.names c.args.dest.now in
    let routed = subst (λ k. AreRouted c.number.result k (sent_kinds c.args.src.now c.args.batch)
    c.in_ok-steps.steps.items) c.width-shards.ensures c.in_ok-steps.ensures in
    let all = sent_below c.number.result n c.args.src.now c.args.batch c.in_ok-steps.steps.items
    routed
    c.requires.known in
    let few = c.in_ok-admitted.ensures.few in
    omega (arith, all, few, c.len-total.ensures)

pub returns-clause-course : goal.returns-clause-course
returns-clause-course g c =
    let l = g.T.Turns.layout c.args.site.now in
    let w = g.T.Turns.writer c.args.site.now in
    let new = g.T.Turns.writer c.deliver_all_over.new.site in
    let n = c.in_ok-admitted.admitted in
    send_answered w new l c.args.dest.now c.args.src.now c.args.batch n
    (c.len-total.result - n) (ap (λ k. k - n) c.len-total.ensures)
    (sends_passed w new l c.args.dest.now c.args.src.now c.number.result c.width-shards.result
    c.args.batch c.in_ok-steps.steps.items (Ok n) c.width-shards.ensures c.in_ok-steps.ensures
    c.in_ok-admitted.ensures.course)

pub returns-in_err-admitted-clause-course : goal.returns-in_err-admitted-clause-course
returns-in_err-admitted-clause-course g c =
    let l = g.T.Turns.layout c.args.site.now in
    let w = g.T.Turns.writer c.args.site.now in
    let new = g.T.Turns.writer c.deliver_all_over.new.site in
    handed_on (Answered w new (send_course l c.args.dest.now c.args.src.now c.args.batch))
    _ _ c.from_residual-in_err-admitted.ensures.1
    (send_refused w new l c.args.dest.now c.args.src.now c.args.batch _
    (sends_passed w new l c.args.dest.now c.args.src.now c.number.result c.width-shards.result
    c.args.batch c.in_ok-steps.steps.items (Err _) c.width-shards.ensures c.in_ok-steps.ensures
    c.in_err-admitted.ensures.course))
