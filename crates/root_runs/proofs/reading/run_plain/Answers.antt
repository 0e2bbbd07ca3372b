use Rattle.std.proofs.lemmas.Result.{err_from_is_err_and}
use Rattle.expr_check.specs.Views.{tree_of}
use Rattle.root_runs.specs.Runs.{list_course}
use Rattle.root_runs.proofs.CarriedLemmas.{answered_as, begun}
use Rattle.root_runs.proofs.reading.run_plain.Goals as goal

pub returns-in_err-docs-clause-course : goal.returns-in_err-docs-clause-course
returns-in_err-docs-clause-course g c =
    let w = g.T.Turns.writer c.args.site.now in
    let new = g.T.Turns.writer c.open_plain.new.site in
    let l = g.T.Turns.layout c.args.site.now in
    let r = err_from_is_err_and c.from_residual.result c.from_residual.ensures.1 in
    begun w new (list_course l (tree_of c.args.checked.now)) c.from_residual.result r.0 r.1
    c.in_err-docs.ensures.course

pub returns-clause-course : goal.returns-clause-course
returns-clause-course g c =
    let w = g.T.Turns.writer c.args.site.now in
    let new = g.T.Turns.writer c.open_plain.new.site in
    let l = g.T.Turns.layout c.args.site.now in
    answered_as w new (list_course l (tree_of c.args.checked.now)) c.in_ok-docs.docs
    c.gathered.result c.in_ok-docs.ensures.course c.gathered.ensures
