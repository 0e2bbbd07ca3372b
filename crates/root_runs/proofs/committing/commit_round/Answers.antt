use Rattle.std.proofs.Common.{◌≡◌, ◌∙◌, List, ap, sym, subst}
use Rattle.std.specs.Prelude.{Ok, Err}
use Rattle.std.proofs.lemmas.Result.{err_from_is_err_and}
use Rattle.tuple_values.specs.Document.{Doc}
use Rattle.exchange_rules.specs.Calls.{Carried, Ended}
use Rattle.exchange_rules.specs.Following.{Answers}
use Rattle.exchange_rules.specs.Updates.{commit_round_course}
use Rattle.root_runs.specs.Runs.{then_commits}
use Rattle.root_runs.specs.declared.done.Done.{Done}
use Rattle.root_runs.proofs.CarriedLemmas.{begun, nothing_done}
use Rattle.root_runs.proofs.RootLemmas.{round_done, round_faulty, round_refused}
use Rattle.root_runs.proofs.committing.commit_round.Goals as goal

-- what was done, with its tuples gathered
abbrev with_docs : Done → List Doc → Done
with_docs done docs =
    record { docs = docs; exception = done.exception; read = done.read; stand = done.stand }

pub returns-then-is_some-clause-course : goal.returns-then-is_some-clause-course
returns-then-is_some-clause-course g c =
    let commit = c.args.commit.now in
    round_faulty (g.T.Turns.writer c.args.site.now) (g.T.Turns.layout c.args.site.now)
    commit.dest.now commit.batch_size c.args.summaries c.args.done c.args.done.exception
    (sym c.is_some.ensures ∙ c.if-is_some.true)

pub returns-in_err-docs-clause-course : goal.returns-in_err-docs-clause-course
returns-in_err-docs-clause-course g c =
    let w = g.T.Turns.writer c.args.site.now in
    let commit = c.args.commit.now in
    let course = then_commits (g.T.Turns.layout c.args.site.now) commit.dest.now commit.batch_size
    c.args.summaries c.args.done in
    let r = err_from_is_err_and c.from_residual.result c.from_residual.ensures.1 in
    begun w w course c.from_residual.result r.0 r.1 (nothing_done w course)

pub returns-in-Ok-clause-course : goal.returns-in-Ok-clause-course
returns-in-Ok-clause-course g c =
    let w = g.T.Turns.writer c.args.site.now in
    let new = g.T.Turns.writer c.run_commit-answer.new.site in
    let l = g.T.Turns.layout c.args.site.now in
    let commit = c.args.commit.now in
    let done = with_docs c.args.done c.listed.result in
    let same : done ≡ c.args.done =
    ap (with_docs c.args.done) (c.listed.ensures ∙ c.in_ok-docs.ensures) in
    subst (λ d. Answers w new
    (then_commits l commit.dest.now commit.batch_size c.args.summaries d) done) same
    (round_done w new l commit.dest.now commit.batch_size c.args.summaries done
    c.args.done.exception _ (sym c.is_some.ensures ∙ c.if-is_some.false)
    (subst (λ docs. Answers w new
    (commit_round_course l commit.dest.now commit.batch_size c.args.summaries docs) (Ok _))
    (sym c.listed.ensures) c.in-Ok.ensures.course))

pub returns-in-Err-clause-course : goal.returns-in-Err-clause-course
returns-in-Err-clause-course g c =
    let w = g.T.Turns.writer c.args.site.now in
    let new = g.T.Turns.writer c.run_commit-answer.new.site in
    let l = g.T.Turns.layout c.args.site.now in
    let commit = c.args.commit.now in
    let done = with_docs c.args.done c.listed.result in
    let same : done ≡ c.args.done =
    ap (with_docs c.args.done) (c.listed.ensures ∙ c.in_ok-docs.ensures) in
    subst (λ d. Carried w new
    (then_commits l commit.dest.now commit.batch_size c.args.summaries d) c.refused.result) same
    (round_refused w new l commit.dest.now commit.batch_size c.args.summaries done
    c.args.done.exception c.in-Err.fault c.refused.result
    (sym c.is_some.ensures ∙ c.if-is_some.false)
    (subst (λ docs. Ended w new
    (commit_round_course l commit.dest.now commit.batch_size c.args.summaries docs)
    (Err c.in-Err.fault))
    (sym c.listed.ensures) c.in-Err.ensures.course) c.refused.ensures)
