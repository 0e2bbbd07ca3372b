use Rattle.std.proofs.Common.{[], get_or, subst, refl, sym}
use Rattle.exchange_rules.specs.Calls.{Passed, Refused}
use Rattle.exchange_rules.specs.Cells.{history_in}
use Rattle.exchange_rules.specs.Rows.{Layout}
use Rattle.exchange_rules.specs.Steps.{fitting, kinds_of, writes_in}
use Rattle.exchange_rules.proofs.StepLemmas.{look_passed}
use Rattle.stream_site.specs.Spots.{full_there}
use Rattle.stream_site.proofs.MayLemmas.{may_after}
use Rattle.stream_site.proofs.RefusalLemmas.{unseen_refused}
use Rattle.stream_site.proofs.step.step_over.Goals as goal

pub returns-in-Ok-clause-course : goal.returns-in-Ok-clause-course
returns-in-Ok-clause-course g c =
    let mid = g.T.Turns.writer c.look.new.self in
    let new = g.T.Turns.writer c.append_over.new.site in
    look_passed c.args.at.now.stand (g.T.Turns.writer c.args.site.now) mid new c.args.at.now.cell _
    _
    c.append_over.result c.requires.in_range.seen c.in-Ok.ensures.ok
    (subst (λ (l : Layout). Passed c.args.at.now.stand mid new
    (fitting l.limit c.args.at.now.cell (kinds_of c.args.step)
    (full_there c.args.at.now)
    (history_in (get_or mid.seen c.args.at.now.cell [])))
    (writes_in (kinds_of c.args.step)) c.append_over.result) c.in-Ok.ensures.layout
    c.append_over.ensures.course)

pub returns-in-Err-clause-course : goal.returns-in-Err-clause-course
returns-in-Err-clause-course g c =
    let w = g.T.Turns.writer c.args.site.now in
    let new = g.T.Turns.writer c.look.new.self in
    subst (Refused c.args.at.now.stand w new _) (sym c.unseen.ensures)
    (unseen_refused c.args.at.now.stand w w new _ c.args.at.now.cell _ refl c.in-Err.ensures.err)

pub append_over-requires-clause-allowed : goal.append_over-requires-clause-allowed
append_over-requires-clause-allowed g c =
    may_after (g.T.Turns.layout c.args.site.now) (g.T.Turns.layout c.look.new.self)
    (g.T.Turns.writer c.args.site.now) (g.T.Turns.writer c.look.new.self) c.args.at.now.cell
    c.args.step
    c.in-Ok.ensures.layout c.requires.in_range c.in-Ok.ensures.ok c.requires.filled c.requires.own
    c.requires.fit
