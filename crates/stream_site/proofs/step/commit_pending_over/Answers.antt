use Rattle.std.proofs.Common.{[], get_or, refl, sym, ap, ◌∙◌, arith}
use Rattle.exchange_rules.specs.Cells.{history_in}
use Rattle.exchange_rules.specs.Steps.{kinds_of, writes_in}
use Rattle.exchange_rules.proofs.StepLemmas.{nothing_done, commit_pending_passed, commit_pending_nothing}
use Rattle.stream_site.specs.Spots.{full_there}
use Rattle.stream_site.proofs.MayLemmas.{may_mark}
use Rattle.stream_site.proofs.step.commit_pending_over.Goals as goal

pub returns-then-not-is_pending-clause-course : goal.returns-then-not-is_pending-clause-course
returns-then-not-is_pending-clause-course g c =
    let w = g.T.Turns.writer c.args.site.now in
    commit_pending_nothing w (g.T.Turns.layout c.args.site.now).limit c.args.at.now.cell
    (full_there c.args.at.now)
    (history_in (get_or w.seen c.args.at.now.cell []))
    (sym c.is_pending.ensures ∙ c.if-not-is_pending.true)

pub returns-in-Ok-clause-course : goal.returns-in-Ok-clause-course
returns-in-Ok-clause-course g c =
    let w = g.T.Turns.writer c.args.site.now in
    commit_pending_passed c.args.at.now.stand w (g.T.Turns.writer c.append_over.new.site)
    (g.T.Turns.layout c.args.site.now).limit c.args.at.now.cell
    (full_there c.args.at.now)
    (history_in (get_or w.seen c.args.at.now.cell [])) c.in-Ok.step c.number.result
    c.append_over.result
    (sym c.is_pending.ensures ∙ c.if-not-is_pending.false) c.in-Ok.ensures
    c.append_over.ensures.course

pub returns-in-Err-clause-course : goal.returns-in-Err-clause-course
returns-in-Err-clause-course g c =
    let w = g.T.Turns.writer c.args.site.now in
    nothing_done c.args.at.now.stand w w _ refl

pub append_over-requires-clause-allowed : goal.append_over-requires-clause-allowed
append_over-requires-clause-allowed g c =
    may_mark (g.T.Turns.layout c.args.site.now) (g.T.Turns.writer c.args.site.now)
    c.args.at.now.cell
    c.number.result c.in-Ok.step c.requires.in_range c.number.ensures c.in-Ok.ensures

pub append_over-requires-clause-few : goal.append_over-requires-clause-few
append_over-requires-clause-few g c =
    let none = ap (λ s. writes_in (kinds_of s)) c.in-Ok.ensures in
    let few = c.args.at.now.counted in
    omega (arith, none, few)
