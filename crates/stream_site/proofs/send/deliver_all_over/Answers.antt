use Rattle.std.proofs.Common.{◌≡◌, ◌<◌, ◌≤◌, length, refl, ap, ◌∙◌, subst, arith}
use Rattle.topic_book.specs.Fitness.{shards_of}
use Rattle.exchange_rules.specs.Calls.{PassedSent, HasAppended}
use Rattle.exchange_rules.specs.Deliveries.{send_shards}
use Rattle.exchange_rules.specs.Rows.{length_below}
use Rattle.exchange_rules.specs.Steps.{kinds_of}
use Rattle.exchange_rules.proofs.DeliveryLemmas.{sends_end}
use Rattle.exchange_rules.proofs.ShardLemmas.{all_left}
use Rattle.exchange_rules.proofs.AppendedLemmas.{appended_none}
use Rattle.stream_site.specs.Shares.{share_in}
use Rattle.stream_site.proofs.IndexLemmas.{here_below}
use Rattle.stream_site.proofs.SendLemmas.{allowed_here, sent_fits, shard_refused, shard_sent}
use Rattle.stream_site.proofs.TakenLemmas.{left_after, left_all, left_here}
use Rattle.stream_site.proofs.TestLemmas.{handed_on}
use Rattle.stream_site.proofs.send.deliver_all_over.Goals as goal

pub loop-shard-init : goal.loop-shard-init
loop-shard-init g c =
    let l = g.T.Turns.layout c.args.site.now in
    let w = g.T.Turns.writer c.args.site.now in
    let n = shards_of l.names c.args.dest.now in
    let p = send_shards l c.args.dest.now (share_in c.args.steps.now.items) 0 0 in
    record {
      same = refl;
      home = refl;
      left = left_all c.args.steps.now.items;
      few = omega arith;
      reached = subst (λ k. HasAppended w w (p n) (p k) 0) (all_left n) (appended_none w (p n));
    }

pub take_step-step-requires : goal.take_step-step-requires
take_step-step-requires g c =
    let n = c.width-shard-end.ensures in
    omega (arith, c.loop-shard.invariant.left.long, c.requires.counted, n, c.loop-shard-test.true)

pub locate-at-requires : goal.locate-at-requires
locate-at-requires g c =
    here_below _ _ c.args.dest.now _ _ c.loop-shard.invariant.same c.width-shard-end.ensures
    c.loop-shard-test.true

pub deliver_over-requires-clause-allowed : goal.deliver_over-requires-clause-allowed
deliver_over-requires-clause-allowed g c =
    let lt = subst (λ n. c.loop-shard.shard < n) c.width-shard-end.ensures c.loop-shard-test.true in
    allowed_here _ _ (g.T.Turns.writer c.args.site.now) (g.T.Turns.writer c.loop-shard.site)
    c.args.dest.now _ _ _ c.args.steps.now.items _ c.requires c.loop-shard.invariant.same
    c.loop-shard.invariant.reached.reached.same c.loop-shard.invariant.reached.reached.grown lt
    c.locate-at.ensures.spot c.locate-at.ensures.here.seen
    (left_here _ _ _ _ c.loop-shard.invariant.left c.take_step-step.ensures.step)

pub returns-in_err-admitted-clause-course : goal.returns-in_err-admitted-clause-course
returns-in_err-admitted-clause-course g c =
    let l = g.T.Turns.layout c.args.site.now in
    let new = g.T.Turns.writer c.deliver_over.new.site in
    let share = share_in c.args.steps.now.items in
    let course = send_shards l c.args.dest.now share 0 0 (shards_of l.names c.args.dest.now) in
    let lt = subst (λ n. c.loop-shard.shard < n) c.width-shard-end.ensures c.loop-shard-test.true in
    handed_on (PassedSent 0 (g.T.Turns.writer c.args.site.now) new course) _ _
    c.from_residual.ensures.1
    (shard_refused _ _ new course l _ c.args.dest.now share _ c.loop-shard.admitted _ _ _ _ lt
    c.loop-shard.invariant.same c.locate-at.ensures.spot
    (ap kinds_of (left_here _ _ _ _ c.loop-shard.invariant.left c.take_step-step.ensures.step))
    c.loop-shard.invariant.reached c.in_err-admitted.ensures.course)

pub overflow_add-admitted : goal.overflow_add-admitted
overflow_add-admitted g c =
    let n = shards_of (g.T.Turns.layout c.args.site.now).names c.args.dest.now in
    let lt = subst (λ n. c.loop-shard.shard < n) c.width-shard-end.ensures c.loop-shard-test.true in
    let is = left_here _ _ _ _ c.loop-shard.invariant.left c.take_step-step.ensures.step in
    let fits = sent_fits c.args.steps.now.items c.take_step-step.result n c.loop-shard.shard
    c.loop-shard.admitted _ lt is c.loop-shard.invariant.few c.in_ok-admitted.ensures.few
    c.requires.few in
    let all = fits.1 in
    omega (arith, all)

pub loop-shard-preserved : goal.loop-shard-preserved
loop-shard-preserved g c =
    let l = g.T.Turns.layout c.args.site.now in
    let share = share_in c.args.steps.now.items in
    let n = shards_of l.names c.args.dest.now in
    let lt = subst (λ n. c.loop-shard.shard < n) c.width-shard-end.ensures c.loop-shard-test.true in
    let is = left_here _ _ _ _ c.loop-shard.invariant.left c.take_step-step.ensures.step in
    let fits = sent_fits c.args.steps.now.items c.take_step-step.result n c.loop-shard.shard
    c.loop-shard.admitted _ lt is c.loop-shard.invariant.few c.in_ok-admitted.ensures.few
    c.requires.few in
    record {
      same = c.in_ok-admitted.ensures.layout ∙ c.loop-shard.invariant.same;
      home = c.in_ok-admitted.ensures.home ∙ c.loop-shard.invariant.home;
      left = left_after _ _ _ _ c.loop-shard.invariant.left c.take_step-step.ensures.rest;
      few = fits.0;
      reached = shard_sent _ _ (g.T.Turns.writer c.deliver_over.new.site) _ l _
          c.args.dest.now share _ c.loop-shard.admitted n _ _ _ lt c.loop-shard.invariant.same
          c.locate-at.ensures.spot (ap kinds_of is) c.loop-shard.invariant.reached
          c.in_ok-admitted.ensures.course;
    }

pub returns-clause-course : goal.returns-clause-course
returns-clause-course g c =
    let l = g.T.Turns.layout c.args.site.now in
    let share = share_in c.args.steps.now.items in
    let n = shards_of l.names c.args.dest.now in
    let over = subst (λ k. k ≤ c.loop-shard.shard) c.width-shard-end.ensures
    c.loop-shard-test.false in
    sends_end (g.T.Turns.writer c.args.site.now) (g.T.Turns.writer c.loop-shard.site)
    (send_shards l c.args.dest.now share 0 0 n) l c.args.dest.now share n c.loop-shard.shard
    c.loop-shard.admitted over c.loop-shard.invariant.reached

pub returns-clause-few : goal.returns-clause-few
returns-clause-few g c =
    let share = share_in c.args.steps.now.items in
    let over = subst (λ k. k ≤ c.loop-shard.shard) c.width-shard-end.ensures
    c.loop-shard-test.false in
    let within = subst (λ k. c.loop-shard.shard ≤ k) c.width-shard-end.ensures
    c.loop-shard.auto.shard-end in
    let last : c.loop-shard.shard
    ≡ shards_of (g.T.Turns.layout c.args.site.now).names c.args.dest.now =
    omega (arith, over, within) in
    subst (λ k. c.loop-shard.admitted ≤ length_below share k) last c.loop-shard.invariant.few

pub deliver_over-requires-clause-few : goal.deliver_over-requires-clause-few
deliver_over-requires-clause-few g c =
    let n = shards_of (g.T.Turns.layout c.args.site.now).names c.args.dest.now in
    let lt = subst (λ n. c.loop-shard.shard < n) c.width-shard-end.ensures c.loop-shard-test.true in
    let is = left_here _ _ _ _ c.loop-shard.invariant.left c.take_step-step.ensures.step in
    let fits = (sent_fits c.args.steps.now.items c.take_step-step.result n c.loop-shard.shard
    c.loop-shard.admitted (length c.take_step-step.result) lt is c.loop-shard.invariant.few
    (omega arith) c.requires.few).1 in
    let at = c.locate-at.ensures.spot.stand_is in
    omega (arith, fits, at)
