use Rattle.std.proofs.Common.{◌||◌, subst}
use Rattle.std.specs.Prelude.{Ok, Err}
use Rattle.exchange_rules.specs.Calls.{Answered}
use Rattle.exchange_rules.specs.Rows.{index_course}
use Rattle.stream_handler.proofs.CarriedLemmas.{index_done, index_refused}
use Rattle.stream_handler.proofs.update.index.Goals as goal

pub returns-in-Ok-clause-course : goal.returns-in-Ok-clause-course
returns-in-Ok-clause-course g c =
    let w = g.T.Turns.writer c.args.site.now in
    let new = g.T.Turns.writer c.index_over.new.site in
    let p = index_course (g.T.Turns.layout c.args.site.now) c.args.collection.now
    c.args.update.writes in
    index_done w new (p (c.args.update.commit || c.args.commit)) c.in-Ok.field-0
    (subst (λ commit. Answered w new (p commit) (Ok c.in-Ok.field-0)) c.is_asked-commit.ensures
    c.in-Ok.ensures.course)

pub returns-in-Err-clause-course : goal.returns-in-Err-clause-course
returns-in-Err-clause-course g c =
    let w = g.T.Turns.writer c.args.site.now in
    let new = g.T.Turns.writer c.index_over.new.site in
    let p = index_course (g.T.Turns.layout c.args.site.now) c.args.collection.now
    c.args.update.writes in
    index_refused w new (p (c.args.update.commit || c.args.commit)) c.in-Err.fault
    c.refusal.result
    (subst (λ commit. Answered w new (p commit) (Err c.in-Err.fault)) c.is_asked-commit.ensures
    c.in-Err.ensures.course) c.refusal.ensures
