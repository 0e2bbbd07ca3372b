use Rattle.std.proofs.Common.{length}
use Rattle.std.proofs.lemmas.Result.{err_from_is_err_and}
use Rattle.exchange_rules.specs.Courses.{ends}
use Rattle.exchange_rules.specs.Updates.{tuples_course}
use Rattle.root_runs.specs.Dones.{ran_over}
use Rattle.root_runs.specs.Runs.{put_course}
use Rattle.root_runs.proofs.CarriedLemmas.{begun, first_begun}
use Rattle.root_runs.proofs.RootLemmas.{put_carried}
use Rattle.root_runs.proofs.updating.put_docs.Goals as goal

pub returns-in_err-ran-clause-course : goal.returns-in_err-ran-clause-course
returns-in_err-ran-clause-course g c =
    let w = g.T.Turns.writer c.args.site.now in
    let new = g.T.Turns.writer c.run_update.new.site in
    let l = g.T.Turns.layout c.args.site.now in
    let dest = c.args.update.now.dest.now in
    let size = c.args.update.now.batch_size in
    let docs = c.args.docs in
    let r = err_from_is_err_and c.from_residual.result c.from_residual.ensures.1 in
    begun w new (put_course l dest size docs) c.from_residual.result r.0 r.1
    (first_begun w new (tuples_course l dest size docs) (λ ran. ends (ran_over (length docs) ran))
    c.in_err-ran.ensures.course)

pub returns-clause-course : goal.returns-clause-course
returns-clause-course g c =
    let update = c.args.update.now in
    put_carried (g.T.Turns.writer c.args.site.now) (g.T.Turns.writer c.run_update.new.site)
    (g.T.Turns.layout c.args.site.now) update.dest.now update.batch_size _ c.args.docs
    c.in_ok-ran.ran c.ran_over.result c.in_ok-ran.ensures.course c.count-tuples.ensures
    c.ran_over.ensures
