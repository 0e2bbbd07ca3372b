use Rattle.std.proofs.Common.{refl}
use Rattle.std.proofs.lemmas.Result.{err_from_is_err_and}
use Rattle.std.specs.Prelude.{None, Ok}
use Rattle.exchange_rules.specs.Courses.{ends}
use Rattle.expr_check.specs.Views.{tree_of}
use Rattle.root_runs.specs.Runs.{list_course}
use Rattle.root_runs.proofs.CarriedLemmas.{begun, first_answered, first_begun}
use Rattle.stream_handler.specs.Requests.{plain_course}
use Rattle.stream_handler.specs.declared.outcome.Outcome.TheVariants.{ResultSet}
use Rattle.stream_handler.proofs.expression.give.Goals as goal

pub returns-in_err-docs-clause-course : goal.returns-in_err-docs-clause-course
returns-in_err-docs-clause-course g c =
    let w = g.T.Turns.writer c.args.site.now in
    let new = g.T.Turns.writer c.open_plain.new.site in
    let l = g.T.Turns.layout c.args.site.now in
    let e = tree_of c.args.checked.now in
    let r = err_from_is_err_and c.from_residual.result c.from_residual.ensures.1 in
    begun w new (plain_course l (Ok e)) c.from_residual.result r.0 r.1
    (first_begun w new (list_course l e) (λ docs. ends (ResultSet docs None))
    c.in_err-docs.ensures.course)

pub returns-clause-course : goal.returns-clause-course
returns-clause-course g c =
    let w = g.T.Turns.writer c.args.site.now in
    let new = g.T.Turns.writer c.open_plain.new.site in
    let l = g.T.Turns.layout c.args.site.now in
    let e = tree_of c.args.checked.now in
    first_answered w new (list_course l e) (λ docs. ends (ResultSet docs None)) c.in_ok-docs.docs
    (ResultSet c.in_ok-docs.docs None) refl c.in_ok-docs.ensures.course
