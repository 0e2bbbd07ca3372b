use Rattle.exchange_rules.specs.Calls.{Answered}
use Rattle.exchange_rules.specs.Rows.{commit_course}
use Rattle.exchange_rules.proofs.AppendedLemmas.{answered_of}
use Rattle.exchange_rules.proofs.StepLemmas.{nothing_done}
use Rattle.stream_site.proofs.MayLemmas.{answered_from}
use Rattle.stream_site.proofs.TestLemmas.{handed_on}
use Rattle.stream_site.proofs.index.commit_steps_over.Goals as goal

pub returns-in_err-make_room-clause-course : goal.returns-in_err-make_room-clause-course
returns-in_err-make_room-clause-course g c =
    let course = commit_course (g.T.Turns.layout c.args.site.now) c.args.collection.now in
    handed_on (Answered (g.T.Turns.writer c.args.site.now) (g.T.Turns.writer c.make_room.new.self)
    course) _ _ c.from_residual.ensures.1
    (nothing_done 0 (g.T.Turns.writer c.args.site.now) (g.T.Turns.writer c.make_room.new.self)
    course c.make_room.ensures.writer)

pub returns-clause-course : goal.returns-clause-course
returns-clause-course g c =
    answered_from (g.T.Turns.writer c.args.site.now) (g.T.Turns.writer c.make_room.new.self)
    (g.T.Turns.writer c.commit_shards_over.new.site) (g.T.Turns.layout c.args.site.now)
    (g.T.Turns.layout c.make_room.new.self) (λ l. commit_course l c.args.collection.now)
    c.commit_shards_over.result c.make_room.ensures.writer c.make_room.ensures.layout
    (answered_of _ _ _ 0 c.commit_shards_over.result c.commit_shards_over.ensures.course)
