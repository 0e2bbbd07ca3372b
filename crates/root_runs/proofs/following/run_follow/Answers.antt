use Rattle.std.proofs.Common.{◌∙◌, sym}
use Rattle.expr_check.specs.Roots.{topic_parts}
use Rattle.root_runs.specs.Dones.{unknown}
use Rattle.root_runs.specs.Runs.{follow_course, where_both, where_there}
use Rattle.root_runs.proofs.CarriedLemmas.{ends_with}
use Rattle.root_runs.proofs.RootLemmas.{there_done, there_told}
use Rattle.root_runs.proofs.following.run_follow.Goals as goal

pub returns-then-not-is_there-clause-course : goal.returns-then-not-is_there-clause-course
returns-then-not-is_there-clause-course g c =
    let w = g.T.Turns.writer c.args.site.now in
    let l = g.T.Turns.layout c.args.site.now in
    let a = c.args.topic.now.checkpoints.now in
    let b = c.args.topic.now.collection.now in
    let p = follow_course l (topic_parts c.args.topic.now) in
    ends_with w (where_both l.names a b p) (unknown a) c.unknown.result
    (there_told l.names a (where_there l.names b p)
    (sym c.is_there.ensures ∙ c.if-not-is_there.true)) c.unknown.ensures

pub returns-then-not-is_there-2-clause-course : goal.returns-then-not-is_there-2-clause-course
returns-then-not-is_there-2-clause-course g c =
    let w = g.T.Turns.writer c.args.site.now in
    let l = g.T.Turns.layout c.args.site.now in
    let a = c.args.topic.now.checkpoints.now in
    let b = c.args.topic.now.collection.now in
    let p = follow_course l (topic_parts c.args.topic.now) in
    ends_with w (where_both l.names a b p) (unknown b) c.unknown-then-not-is_there-2.result
    (there_done l.names a (where_there l.names b p)
    (sym c.is_there.ensures ∙ c.if-not-is_there.false)
    ∙ there_told l.names b p (sym c.is_there-2.ensures ∙ c.if-not-is_there-2.true))
    c.unknown-then-not-is_there-2.ensures
