use Rattle.std.proofs.Common.{◌<◌, length, refl, sym, subst, ◌∙◌, arith}
use Rattle.std.specs.Prelude.{Ok}
use Rattle.std.proofs.lemmas.Grind.{common_steps}
use Rattle.std.proofs.lemmas.Result.{err_from_is_err_and}
use Rattle.exchange_rules.specs.Batches.{batches_of}
use Rattle.exchange_rules.specs.Following.{Reaches}
use Rattle.exchange_rules.specs.Puts.{puts_of}
use Rattle.exchange_rules.specs.Updates.{batches_course, tuples_course}
use Rattle.exchange_rules.proofs.ReachLemmas.{reaches_none}
use Rattle.update_sink.specs.Progresses.{sunk_of}
use Rattle.update_sink.specs.Steps.{IsTaken, batch_of, halted}
use Rattle.update_sink.proofs.UpdateLemmas.{batch_begun, batch_halts, batch_on, carried_so_far, halted_carried}
use Rattle.update_sink.proofs.update.run_batches.Goals as goal

pub loop-rest-init : goal.loop-rest-init
loop-rest-init g c =
    let l = g.T.Turns.layout c.args.site.now in
    let w = g.T.Turns.writer c.args.site.now in
    let dest = c.args.dest.now in
    let size = c.args.batch_size in
    let docs = c.args.tuples.now in
    record {
      same = refl;
      home = refl;
      reached = subst (λ s. Reaches w w (tuples_course l dest size docs)
          (batches_course l dest s (batches_of size docs))) (sym c.none-progress.ensures)
          (reaches_none w (tuples_course l dest size docs));
    }

pub returns-in_err-halt-clause-course : goal.returns-in_err-halt-clause-course
returns-in_err-halt-clause-course g c =
    let l = g.T.Turns.layout c.args.site.now in
    let w = g.T.Turns.writer c.args.site.now in
    let mid = g.T.Turns.writer c.loop-rest.site in
    let new = g.T.Turns.writer c.run_batch.new.site in
    let dest = c.args.dest.now in
    let size = c.args.batch_size in
    let course = tuples_course l dest size c.args.tuples.now in
    let rest = c.loop-rest.rest.now in
    let filled : 0 < length rest = grind (arith, common_steps) in
    let r = err_from_is_err_and c.from_residual.result c.from_residual.ensures.1 in
    carried_so_far w new course c.from_residual.result r.0 r.1
    (batch_begun w mid new course l (g.T.Turns.layout c.loop-rest.site) dest size
    (sunk_of c.loop-rest.progress) rest c.loop-rest.invariant.same c.requires.size filled
    c.front-batch.result.now (sunk_of c.run_batch.new.progress) c.in_err-halt.field-0.0
    c.front-batch.ensures
    c.loop-rest.invariant.reached c.in_err-halt.ensures.course)

pub returns-in-Some-clause-course : goal.returns-in-Some-clause-course
returns-in-Some-clause-course g c =
    let l = g.T.Turns.layout c.args.site.now in
    let there = g.T.Turns.layout c.loop-rest.site in
    let w = g.T.Turns.writer c.args.site.now in
    let mid = g.T.Turns.writer c.loop-rest.site in
    let new = g.T.Turns.writer c.run_batch.new.site in
    let dest = c.args.dest.now in
    let size = c.args.batch_size in
    let course = tuples_course l dest size c.args.tuples.now in
    let rest = c.loop-rest.rest.now in
    let s = sunk_of c.loop-rest.progress in
    let now = sunk_of c.run_batch.new.progress in
    let front = c.front-batch.result.now in
    let filled : 0 < length rest = grind (arith, common_steps) in
    halted_carried w new course (halted now c.in-Some.halt) c.stopped.result c.stopped.ensures
    (batch_halts w mid new course l there dest size s rest c.loop-rest.invariant.same
    c.requires.size filled front now c.in-Some.halt c.front-batch.ensures
    c.loop-rest.invariant.reached
    (subst (λ o. IsTaken mid new (batch_of there dest (length front) s (puts_of s.total front)) now
    (Ok o)) c.in-Some.is c.in_ok-halt.ensures.course))

pub loop-rest-preserved : goal.loop-rest-preserved
loop-rest-preserved g c =
    let l = g.T.Turns.layout c.args.site.now in
    let there = g.T.Turns.layout c.loop-rest.site in
    let w = g.T.Turns.writer c.args.site.now in
    let mid = g.T.Turns.writer c.loop-rest.site in
    let new = g.T.Turns.writer c.run_batch.new.site in
    let dest = c.args.dest.now in
    let size = c.args.batch_size in
    let course = tuples_course l dest size c.args.tuples.now in
    let rest = c.loop-rest.rest.now in
    let s = sunk_of c.loop-rest.progress in
    let now = sunk_of c.run_batch.new.progress in
    let front = c.front-batch.result.now in
    let filled : 0 < length rest = grind (arith, common_steps) in
    record {
      same = c.in_ok-halt.ensures.layout ∙ c.loop-rest.invariant.same;
      home = c.in_ok-halt.ensures.home ∙ c.loop-rest.invariant.home;
      reached = batch_on w mid new course l there dest size s rest c.loop-rest.invariant.same
          c.requires.size filled front c.behind-rest.result.now now c.front-batch.ensures
          c.behind-rest.ensures c.loop-rest.invariant.reached
          (subst (λ o. IsTaken mid new
          (batch_of there dest (length front) s (puts_of s.total front)) now (Ok o))
          c.in_default.is c.in_ok-halt.ensures.course);
    }
