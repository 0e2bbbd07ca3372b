use Rattle.std.proofs.Common.{[], get_or, subst, arith, refl, sym}
use Rattle.exchange_rules.specs.Calls.{PassedSent, Refused}
use Rattle.exchange_rules.specs.Cells.{history_in}
use Rattle.exchange_rules.specs.Deliveries.{admitted_kinds, send_admitted}
use Rattle.exchange_rules.specs.Rows.{Layout}
use Rattle.exchange_rules.specs.Steps.{kinds_of}
use Rattle.stream_site.specs.Spots.{full_there}
use Rattle.stream_site.proofs.SendLemmas.{deliver_looked, deliver_none, may_deliver_after}
use Rattle.stream_site.proofs.RefusalLemmas.{unseen_refused}
use Rattle.stream_site.proofs.step.deliver_over.Goals as goal

pub returns-then-len-eq0-clause-course : goal.returns-then-len-eq0-clause-course
returns-then-len-eq0-clause-course g c =
    deliver_none (g.T.Turns.writer c.args.site.now) (g.T.Turns.layout c.args.site.now).limit
    c.args.at.now.cell (full_there c.args.at.now) c.args.step
    (omega (arith, c.len.ensures))

pub deliver_seen_over-requires-clause-allowed : goal.deliver_seen_over-requires-clause-allowed
deliver_seen_over-requires-clause-allowed g c =
    may_deliver_after (g.T.Turns.layout c.args.site.now) (g.T.Turns.layout c.look.new.self)
    (g.T.Turns.writer c.args.site.now) (g.T.Turns.writer c.look.new.self) c.args.at.now.cell
    c.args.step
    c.in-Ok.ensures.layout c.in-Ok.ensures.ok (c.requires.allowed (omega (arith, c.len.ensures)))

pub returns-in-Ok-clause-course : goal.returns-in-Ok-clause-course
returns-in-Ok-clause-course g c =
    let mid = g.T.Turns.writer c.look.new.self in
    let new = g.T.Turns.writer c.deliver_seen_over.new.site in
    let h = history_in (get_or mid.seen c.args.at.now.cell []) in
    deliver_looked c.args.at.now.stand (g.T.Turns.writer c.args.site.now) mid new c.args.at.now.cell
    (g.T.Turns.layout c.args.site.now).limit
    (full_there c.args.at.now) c.args.step
    c.deliver_seen_over.result (omega (arith, c.len.ensures)) c.requires.in_range.seen
    c.in-Ok.ensures.ok
    (subst (λ (l : Layout). PassedSent c.args.at.now.stand mid new
    (send_admitted l.limit c.args.at.now.cell (full_there c.args.at.now) h
    (admitted_kinds h (kinds_of c.args.step))) c.deliver_seen_over.result) c.in-Ok.ensures.layout
    c.deliver_seen_over.ensures.course)

pub returns-in-Err-clause-course : goal.returns-in-Err-clause-course
returns-in-Err-clause-course g c =
    let w = g.T.Turns.writer c.args.site.now in
    let new = g.T.Turns.writer c.look.new.self in
    subst (Refused c.args.at.now.stand w new _) (sym c.unseen.ensures)
    (unseen_refused c.args.at.now.stand w w new _ c.args.at.now.cell _ refl c.in-Err.ensures.err)
