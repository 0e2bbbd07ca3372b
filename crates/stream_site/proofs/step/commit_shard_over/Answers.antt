use Rattle.std.proofs.Common.{[], get_or, subst, refl, sym}
use Rattle.exchange_rules.specs.Calls.{Passed, Refused}
use Rattle.exchange_rules.specs.Cells.{history_in}
use Rattle.exchange_rules.specs.Rows.{Layout}
use Rattle.exchange_rules.specs.Steps.{commit_pending}
use Rattle.exchange_rules.proofs.StepLemmas.{look_passed}
use Rattle.stream_site.specs.Spots.{full_there}
use Rattle.stream_site.proofs.RefusalLemmas.{unseen_refused}
use Rattle.stream_site.proofs.step.commit_shard_over.Goals as goal

pub returns-in-Ok-clause-course : goal.returns-in-Ok-clause-course
returns-in-Ok-clause-course g c =
    let mid = g.T.Turns.writer c.look.new.self in
    let new = g.T.Turns.writer c.commit_pending_over.new.site in
    look_passed c.args.at.now.stand (g.T.Turns.writer c.args.site.now) mid new c.args.at.now.cell _
    _
    c.commit_pending_over.result c.requires.seen c.in-Ok.ensures.ok
    (subst (λ (l : Layout). Passed c.args.at.now.stand mid new
    (commit_pending l.limit c.args.at.now.cell (full_there c.args.at.now)
    (history_in (get_or mid.seen c.args.at.now.cell []))) 0 c.commit_pending_over.result)
    c.in-Ok.ensures.layout c.commit_pending_over.ensures.course)

pub returns-in-Err-clause-course : goal.returns-in-Err-clause-course
returns-in-Err-clause-course g c =
    let w = g.T.Turns.writer c.args.site.now in
    let new = g.T.Turns.writer c.look.new.self in
    subst (Refused c.args.at.now.stand w new _) (sym c.unseen.ensures)
    (unseen_refused c.args.at.now.stand w w new _ c.args.at.now.cell _ refl c.in-Err.ensures.err)
