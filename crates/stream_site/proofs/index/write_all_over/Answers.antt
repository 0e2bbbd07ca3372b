use Rattle.std.proofs.Common.{◌<◌, ◌≤◌, refl, ◌∙◌, subst, arith}
use Rattle.topic_book.specs.Fitness.{shards_of}
use Rattle.exchange_rules.specs.Calls.{Passed, HasAppended}
use Rattle.exchange_rules.specs.Rows.{each_shard, length_below, write_at, writes_course}
use Rattle.exchange_rules.proofs.ShardLemmas.{all_left}
use Rattle.exchange_rules.proofs.AppendedLemmas.{appended_none}
use Rattle.stream_site.specs.Shares.{share_in}
use Rattle.stream_site.proofs.IndexLemmas.{here_below, write_refused, write_appended, writes_end}
use Rattle.stream_site.proofs.MayLemmas.{fit_here}
use Rattle.stream_site.proofs.TakenLemmas.{left_after, left_all, left_here, taken}
use Rattle.stream_site.proofs.TestLemmas.{handed_on}
use Rattle.stream_site.proofs.index.write_all_over.Goals as goal

pub loop-shard-init : goal.loop-shard-init
loop-shard-init g c =
    let l = g.T.Turns.layout c.args.site.now in
    let w = g.T.Turns.writer c.args.site.now in
    let at = write_at l c.args.collection.now (share_in c.args.steps.now.items) c.args.commit in
    let n = shards_of l.names c.args.collection.now in
    record {
      same = refl;
      home = refl;
      left = left_all c.args.steps.now.items;
      counted = refl;
      reached = subst (λ k. HasAppended w w (each_shard at 0 n) (each_shard at 0 k) 0) (all_left n)
          (appended_none w (each_shard at 0 n));
    }

pub take_step-step-requires : goal.take_step-step-requires
take_step-step-requires g c =
    let n = c.width-shard-end.ensures in
    omega (arith, c.loop-shard.invariant.left.long, c.requires.steps.counted, n, c.loop-shard-test.true)

pub locate-at-requires : goal.locate-at-requires
locate-at-requires g c =
    here_below _ _ c.args.collection.now _ _ c.loop-shard.invariant.same c.width-shard-end.ensures
    c.loop-shard-test.true

pub write_over-requires-clause-own : goal.write_over-requires-clause-own
write_over-requires-clause-own g c =
    (taken _ _ _ _ _ _ _ _ _ c.requires.steps c.loop-shard.invariant.reached.reached.same
    (subst (λ n. c.loop-shard.shard < n) c.width-shard-end.ensures c.loop-shard-test.true)
    c.take_step-step.ensures.step c.loop-shard.invariant.left c.loop-shard.invariant.counted
    c.len-count.ensures).own

pub returns-in_err-write_over-clause-course : goal.returns-in_err-write_over-clause-course
returns-in_err-write_over-clause-course g c =
    let l = g.T.Turns.layout c.args.site.now in
    let new = g.T.Turns.writer c.write_over.new.site in
    let share = share_in c.args.steps.now.items in
    let n = shards_of l.names c.args.collection.now in
    let lt = subst (λ n. c.loop-shard.shard < n) c.width-shard-end.ensures c.loop-shard-test.true in
    let t = taken _ _ _ _ _ _ _ _ _ c.requires.steps c.loop-shard.invariant.reached.reached.same lt
    c.take_step-step.ensures.step c.loop-shard.invariant.left c.loop-shard.invariant.counted
    c.len-count.ensures in
    handed_on (Passed 0 (g.T.Turns.writer c.args.site.now) new
    (writes_course l c.args.collection.now share c.args.commit) (length_below share n))
    _ _ c.from_residual.ensures.1
    (write_refused _ _ new l _ c.args.collection.now share c.args.commit _ _ n _ _ _ lt
    c.loop-shard.invariant.same c.locate-at.ensures.spot t.kinds c.loop-shard.invariant.counted
    c.loop-shard.invariant.reached c.in_err-write_over.ensures.course)

pub overflow_add-stand : goal.overflow_add-stand
overflow_add-stand g c =
    let lt = subst (λ n. c.loop-shard.shard < n) c.width-shard-end.ensures c.loop-shard-test.true in
    let t = taken _ _ _ _ _ _ _ _ _ c.requires.steps c.loop-shard.invariant.reached.reached.same lt
    c.take_step-step.ensures.step c.loop-shard.invariant.left c.loop-shard.invariant.counted
    c.len-count.ensures in
    let fits = t.fits in
    omega (arith, fits)

pub loop-shard-preserved : goal.loop-shard-preserved
loop-shard-preserved g c =
    let share = share_in c.args.steps.now.items in
    let lt = subst (λ n. c.loop-shard.shard < n) c.width-shard-end.ensures c.loop-shard-test.true in
    let t = taken _ _ _ _ _ _ _ _ _ c.requires.steps c.loop-shard.invariant.reached.reached.same lt
    c.take_step-step.ensures.step c.loop-shard.invariant.left c.loop-shard.invariant.counted
    c.len-count.ensures in
    record {
      same = c.in_ok-write_over.ensures.layout ∙ c.loop-shard.invariant.same;
      home = c.in_ok-write_over.ensures.home ∙ c.loop-shard.invariant.home;
      left = left_after _ _ _ _ c.loop-shard.invariant.left c.take_step-step.ensures.rest;
      counted = t.next;
      reached = write_appended _ _ (g.T.Turns.writer c.write_over.new.site)
          (g.T.Turns.layout c.args.site.now) _ c.args.collection.now share c.args.commit _ _ _ _ _ _
          lt c.loop-shard.invariant.same c.locate-at.ensures.spot t.kinds
          c.loop-shard.invariant.counted t.writes c.loop-shard.invariant.reached
          c.in_ok-write_over.ensures.course;
    }

pub returns-clause-course : goal.returns-clause-course
returns-clause-course g c =
    writes_end _ _ (g.T.Turns.layout c.args.site.now) c.args.collection.now
    (share_in c.args.steps.now.items) c.args.commit c.loop-shard.shard c.loop-shard.stand
    (shards_of (g.T.Turns.layout c.args.site.now).names c.args.collection.now)
    (subst (λ k. k ≤ c.loop-shard.shard) c.width-shard-end.ensures c.loop-shard-test.false)
    (subst (λ k. c.loop-shard.shard ≤ k) c.width-shard-end.ensures c.loop-shard.auto.shard-end)
    c.loop-shard.invariant.counted c.loop-shard.invariant.reached

pub write_over-requires-clause-fit : goal.write_over-requires-clause-fit
write_over-requires-clause-fit g c =
    let lt = subst (λ n. c.loop-shard.shard < n) c.width-shard-end.ensures c.loop-shard-test.true in
    fit_here _ _ c.args.collection.now _ _ _ _ _ c.loop-shard.invariant.same
    c.locate-at.ensures.spot
    (left_here _ _ _ _ c.loop-shard.invariant.left c.take_step-step.ensures.step)
    (c.requires.fit c.loop-shard.shard lt)

pub write_over-requires-clause-few : goal.write_over-requires-clause-few
write_over-requires-clause-few g c =
    let lt = subst (λ n. c.loop-shard.shard < n) c.width-shard-end.ensures c.loop-shard-test.true in
    let t = taken _ _ _ _ _ _ _ _ _ c.requires.steps c.loop-shard.invariant.reached.reached.same lt
    c.take_step-step.ensures.step c.loop-shard.invariant.left c.loop-shard.invariant.counted
    c.len-count.ensures in
    let fits = t.fits in
    let writes = t.writes in
    let at = c.locate-at.ensures.spot.stand_is in
    omega (arith, fits, writes, at)
