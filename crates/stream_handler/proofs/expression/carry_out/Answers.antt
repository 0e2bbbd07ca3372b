use Rattle.std.proofs.Common.{refl}
use Rattle.std.proofs.lemmas.Result.{err_from_is_err_and}
use Rattle.exchange_rules.specs.Courses.{ends}
use Rattle.expr_check.specs.Views.{tree_of}
use Rattle.root_runs.specs.Runs.{root_course}
use Rattle.root_runs.proofs.CarriedLemmas.{begun, first_answered, first_begun}
use Rattle.stream_handler.specs.Requests.{deed_course, outcome_of}
use Rattle.stream_handler.proofs.expression.carry_out.Goals as goal

pub returns-in_err-done-clause-course : goal.returns-in_err-done-clause-course
returns-in_err-done-clause-course g c =
    let w = g.T.Turns.writer c.args.site.now in
    let new = g.T.Turns.writer c.run_deed.new.site in
    let l = g.T.Turns.layout c.args.site.now in
    let e = tree_of c.args.checked.now in
    let r = err_from_is_err_and c.from_residual.result c.from_residual.ensures.1 in
    begun w new (deed_course l e) c.from_residual.result r.0 r.1
    (first_begun w new (root_course l e) (λ done. ends (outcome_of done)) c.in_err-done.ensures.course)

pub returns-clause-course : goal.returns-clause-course
returns-clause-course g c =
    let w = g.T.Turns.writer c.args.site.now in
    let new = g.T.Turns.writer c.run_deed.new.site in
    let l = g.T.Turns.layout c.args.site.now in
    let e = tree_of c.args.checked.now in
    first_answered w new (root_course l e) (λ done. ends (outcome_of done)) c.in_ok-done.done
    (outcome_of c.in_ok-done.done) refl c.in_ok-done.ensures.course
