use Rattle.std.proofs.Common.{sym, subst}
use Rattle.exchange_rules.specs.Calls.{Answered}
use Rattle.exchange_rules.specs.Deliveries.{send_course}
use Rattle.exchange_rules.specs.Following.{Writer}
use Rattle.exchange_rules.specs.Rows.{Layout}
use Rattle.exchange_rules.proofs.StepLemmas.{nothing_done}
use Rattle.site_laws.specs.Duties.{MaySend}
use Rattle.stream_site.proofs.MayLemmas.{answered_from}
use Rattle.stream_site.proofs.TestLemmas.{handed_on}
use Rattle.stream_site.proofs.send.send_ready_over.Goals as goal

pub send_steps_over-requires : goal.send_steps_over-requires
send_steps_over-requires g c =
    subst (λ (x : Layout). MaySend x.names (g.T.Turns.writer c.make_room.new.self).seen
    c.args.dest.now c.args.src.now c.args.batch) (sym c.make_room.ensures.layout)
    (subst (λ (w : Writer). MaySend (g.T.Turns.layout c.args.site.now).names w.seen
    c.args.dest.now c.args.src.now c.args.batch) (sym c.make_room.ensures.writer) c.requires)

pub returns-in_err-make_room-clause-course : goal.returns-in_err-make_room-clause-course
returns-in_err-make_room-clause-course g c =
    let course = send_course (g.T.Turns.layout c.args.site.now) c.args.dest.now c.args.src.now
    c.args.batch in
    handed_on (Answered (g.T.Turns.writer c.args.site.now) (g.T.Turns.writer c.make_room.new.self)
    course) _ _ c.from_residual.ensures.1
    (nothing_done 0 (g.T.Turns.writer c.args.site.now) (g.T.Turns.writer c.make_room.new.self)
    course c.make_room.ensures.writer)

pub returns-clause-course : goal.returns-clause-course
returns-clause-course g c =
    answered_from (g.T.Turns.writer c.args.site.now) (g.T.Turns.writer c.make_room.new.self)
    (g.T.Turns.writer c.send_steps_over.new.site) (g.T.Turns.layout c.args.site.now)
    (g.T.Turns.layout c.make_room.new.self)
    (λ l. send_course l c.args.dest.now c.args.src.now c.args.batch) c.send_steps_over.result
    c.make_room.ensures.writer c.make_room.ensures.layout c.send_steps_over.ensures.course
