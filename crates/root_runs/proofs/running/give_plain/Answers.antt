use Rattle.std.proofs.Common.{sym, subst, refl}
use Rattle.std.proofs.lemmas.Result.{err_from_is_err_and}
use Rattle.exchange_rules.specs.Courses.{ends}
use Rattle.exchange_rules.specs.Following.{Answers}
use Rattle.expr_check.specs.Views.{tree_of}
use Rattle.root_runs.specs.Dones.{given}
use Rattle.root_runs.specs.Runs.{reads_then}
use Rattle.root_runs.proofs.CarriedLemmas.{begun}
use Rattle.root_runs.proofs.RootLemmas.{reads_begun, reads_given}
use Rattle.root_runs.proofs.running.give_plain.Goals as goal

pub returns-in_err-docs-clause-course : goal.returns-in_err-docs-clause-course
returns-in_err-docs-clause-course g c =
    let w = g.T.Turns.writer c.args.site.now in
    let new = g.T.Turns.writer c.open_plain.new.site in
    let l = g.T.Turns.layout c.args.site.now in
    let e = tree_of c.args.checked.now in
    let r = err_from_is_err_and c.from_residual.result c.from_residual.ensures.1 in
    begun w new (reads_then l e (λ docs. ends (given docs))) c.from_residual.result r.0 r.1
    (reads_begun w new l e (λ docs. ends (given docs)) c.requires c.in_err-docs.ensures.course)

pub returns-clause-course : goal.returns-clause-course
returns-clause-course g c =
    let w = g.T.Turns.writer c.args.site.now in
    let new = g.T.Turns.writer c.open_plain.new.site in
    let l = g.T.Turns.layout c.args.site.now in
    let e = tree_of c.args.checked.now in
    let docs = c.in_ok-docs.docs in
    subst (λ d. Answers w new (reads_then l e (λ docs. ends (given docs))) d) (sym c.given.ensures)
    (reads_given w new l e (λ docs. ends (given docs)) docs (given docs) c.requires refl
    c.in_ok-docs.ensures.course)
