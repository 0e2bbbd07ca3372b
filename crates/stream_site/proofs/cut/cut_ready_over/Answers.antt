use Rattle.std.proofs.Common.{[]}
use Rattle.exchange_rules.specs.Calls.{Completed}
use Rattle.exchange_rules.specs.Rows.{cut_course}
use Rattle.exchange_rules.proofs.StepLemmas.{look_none}
use Rattle.stream_site.proofs.MayLemmas.{completed_from}
use Rattle.stream_site.proofs.TestLemmas.{handed_on}
use Rattle.stream_site.proofs.cut.cut_ready_over.Goals as goal

pub returns-in_err-make_room-clause-course : goal.returns-in_err-make_room-clause-course
returns-in_err-make_room-clause-course g c =
    let course = cut_course (g.T.Turns.layout c.args.site.now).names [] c.args.collections.now in
    handed_on (Completed (g.T.Turns.writer c.args.site.now)
    (g.T.Turns.writer c.make_room.new.self) course) _ _ c.from_residual.ensures.1
    (look_none (g.T.Turns.writer c.args.site.now) (g.T.Turns.writer c.make_room.new.self) course
    c.make_room.ensures.writer)

pub returns-clause-course : goal.returns-clause-course
returns-clause-course g c =
    completed_from (g.T.Turns.writer c.args.site.now) (g.T.Turns.writer c.make_room.new.self)
    (g.T.Turns.writer c.cut_parts_over.new.site) (g.T.Turns.layout c.args.site.now)
    (g.T.Turns.layout c.make_room.new.self) (λ l. cut_course l.names [] c.args.collections.now)
    c.cut_parts_over.result c.make_room.ensures.writer c.make_room.ensures.layout
    c.cut_parts_over.ensures.course

pub returns-clause-later : goal.returns-clause-later
returns-clause-later g c =
    g.met.T.Turns.later_on c.args.site.now c.make_room.new.self c.cut_parts_over.new.site
    c.make_room.ensures.later c.cut_parts_over.ensures.later
