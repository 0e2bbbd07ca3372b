use Rattle.std.proofs.Common.{subst}
use Rattle.std.proofs.lemmas.Result.{err_from_is_err_and}
use Rattle.exchange_rules.specs.Calls.{Carried}
use Rattle.expr_check.specs.Views.{tree_of}
use Rattle.root_runs.specs.Runs.{put_course, reads_then}
use Rattle.root_runs.proofs.CarriedLemmas.{begun}
use Rattle.root_runs.proofs.RootLemmas.{reads_begun, reads_on}
use Rattle.root_runs.proofs.updating.put_plain.Goals as goal

pub returns-in_err-docs-clause-course : goal.returns-in_err-docs-clause-course
returns-in_err-docs-clause-course g c =
    let w = g.T.Turns.writer c.args.site.now in
    let new = g.T.Turns.writer c.run_plain.new.site in
    let l = g.T.Turns.layout c.args.site.now in
    let e = tree_of c.args.update.now.input.now in
    let next = put_course l c.args.update.now.dest.now c.args.update.now.batch_size in
    let r = err_from_is_err_and c.from_residual.result c.from_residual.ensures.1 in
    begun w new (reads_then l e next) c.from_residual.result r.0 r.1
    (reads_begun w new l e next c.requires.plain c.in_err-docs.ensures.course)

pub returns-clause-course : goal.returns-clause-course
returns-clause-course g c =
    let w = g.T.Turns.writer c.args.site.now in
    let mid = g.T.Turns.writer c.run_plain.new.site in
    let new = g.T.Turns.writer c.put_docs.new.site in
    let l = g.T.Turns.layout c.args.site.now in
    let e = tree_of c.args.update.now.input.now in
    let dest = c.args.update.now.dest.now in
    let size = c.args.update.now.batch_size in
    let docs = c.in_ok-docs.docs in
    reads_on w mid new l e (put_course l dest size) docs c.put_docs.result c.requires.plain
    c.in_ok-docs.ensures.course
    (subst (λ m. Carried mid new (put_course m dest size docs) c.put_docs.result)
    c.in_ok-docs.ensures.stays.layout c.put_docs.ensures.course)
