use Rattle.std.proofs.Common.{subst}
use Rattle.std.proofs.lemmas.Result.{err_from_is_err_and}
use Rattle.std.specs.Prelude.{Some}
use Rattle.exchange_rules.specs.Calls.{Carried}
use Rattle.expr_check.specs.Views.{tree_of}
use Rattle.expr_types.specs.ExprTree.{operator_in}
use Rattle.root_runs.specs.Deeds.{deed_of, gives_summaries}
use Rattle.root_runs.specs.Runs.{commit_over, inner_by, then_commits}
use Rattle.root_runs.proofs.CarriedLemmas.{begun, carried_on, first_begun}
use Rattle.root_runs.proofs.committing.run_commit_of.Goals as goal

pub returns-in_err-done-clause-course : goal.returns-in_err-done-clause-course
returns-in_err-done-clause-course g c =
    let w = g.T.Turns.writer c.args.site.now in
    let new = g.T.Turns.writer c.run_inner.new.site in
    let l = g.T.Turns.layout c.args.site.now in
    let commit = c.args.commit.now in
    let dest = commit.dest.now in
    let size = commit.batch_size in
    let e = tree_of commit.input.now in
    let d = deed_of (operator_in e) in
    let r = err_from_is_err_and c.from_residual.result c.from_residual.ensures.1 in
    begun w new (commit_over l dest size (Some e)) c.from_residual.result r.0 r.1
    (first_begun w new (inner_by l e d) (then_commits l dest size (gives_summaries d))
    c.in_err-done.ensures.course)

pub returns-clause-course : goal.returns-clause-course
returns-clause-course g c =
    let w = g.T.Turns.writer c.args.site.now in
    let mid = g.T.Turns.writer c.run_inner.new.site in
    let new = g.T.Turns.writer c.commit_round.new.site in
    let l = g.T.Turns.layout c.args.site.now in
    let commit = c.args.commit.now in
    let dest = commit.dest.now in
    let size = commit.batch_size in
    let e = tree_of commit.input.now in
    let d = deed_of (operator_in e) in
    let done = c.in_ok-done.done in
    carried_on w mid new (inner_by l e d) (then_commits l dest size (gives_summaries d)) done
    c.commit_round.result c.in_ok-done.ensures.course
    (subst (λ s. Carried mid new (then_commits l dest size s done) c.commit_round.result)
    c.gives_summaries-summaries.ensures
    (subst (λ m. Carried mid new (then_commits m dest size c.gives_summaries-summaries.result done)
    c.commit_round.result) c.in_ok-done.ensures.stays.layout c.commit_round.ensures.course))
